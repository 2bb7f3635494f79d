-- The attached files of a file, whose data stay in it: RFC 9559, section 5.1.6 (Attachments).
use Rattle.std.specs.Prelude.{◌≡◌, ⊤, ℕ, List, [], map, Option, Some, None, Result, Ok, Err}
use Rattle.std.specs.Option.{option_map_or}
use Rattle.mkv_schema.specs.declared.ids.TheConstants.{ATTACHMENTS, FILE_UID}
use Rattle.mkv_io.specs.declared.damage.Damage.{Damage}
use Rattle.mkv_schema.specs.declared.element.Header.{Header}
use Rattle.mkv_schema.specs.Element.{known}
use Rattle.mkv_schema.specs.Outline.{first_damage, segment_run}
use Rattle.mkv_io.specs.Results.{unless}
use Rattle.mkv_schema.specs.Value.{first_of}
use Rattle.tree_format.specs.Node.{Node}
use Rattle.tree_format.specs.Values.{uint_in}
use Rattle.output_model.specs.declared.attachment.Attachment.{Attachment}
use Rattle.meta_records.specs.Attachments.{attached_in, attachments_causes, data_in, entry_of}
use Rattle.element_reader.specs.declared.outline_end.OutlineEnd.{OutlineEnd}
use Rattle.element_reader.specs.declared.outline_end.OutlineEnd.TheVariants as outline_end

-- an attached file: its FileUID, the offset in the file and the length in bytes of its data, and its AttachedFile with an empty FileData. The
-- definitions read an attached file as it. Used by `file_at`, `files_at` and others.
pub record AttachedFile : Type 0 where
  pub uid : ℕ
  pub at : ℕ
  pub len : ℕ
  pub entry : Node

-- the attached file with the header `h` in the content `bytes`; without a FileData its data have the offset and length 0. For `files_at`, when the
-- attached files of a file are read.
abbrev pub file_at : List ℕ → Header → AttachedFile
file_at bytes h = record {
  uid = uint_in FILE_UID (entry_of bytes h);
  at = option_map_or (λ (d : Header). d.body) (data_in bytes h) 0;
  len = option_map_or (λ (d : Header). known d.size) (data_in bytes h) 0;
  entry = entry_of bytes h;
}

-- the attached files of an Attachments in the content `bytes`, if there is one, or its damage. For `first_attached`, when the attached files of a
-- file are read.
abbrev pub files_at : List ℕ → Option Header → Result (List AttachedFile) Damage
files_at bytes None = Ok []
files_at bytes (Some h) = unless (first_damage (attachments_causes bytes h)) (map (file_at bytes) (attached_in bytes h))

-- the attached files of the first Attachments in the Segment `segment` of the content `bytes`, or its damage. The contract of `first_attachments`
-- states it.
abbrev pub first_attached : List ℕ → Header → Result (List AttachedFile) Damage
first_attached bytes segment = files_at bytes (first_of ATTACHMENTS (segment_run bytes segment).list)

-- ---- results

-- the attached file `a`, without the number of the live file that has its data. For contracts on attached files that were read. Used by
-- `ReadsAttached`, `described_by` and others.
abbrev pub in_file : Attachment → AttachedFile
in_file a = record { uid = a.uid; at = a.at; len = a.len; entry = a.entry }

-- The result of reading attached files is the expected one, `found`: files or damage. A read may fail, and memory may run out. The contract of
-- `first_attachments` states it.
abbrev pub ReadsAttached : Result (List AttachedFile) Damage → Result (List Attachment) OutlineEnd → Type 0
ReadsAttached found (Ok list) = found ≡ Ok (map in_file list)
ReadsAttached found (Err (outline_end.Refused d)) = found ≡ Err d
ReadsAttached found (Err outline_end.ReadFault) = ⊤
ReadsAttached found (Err outline_end.Memory) = ⊤
