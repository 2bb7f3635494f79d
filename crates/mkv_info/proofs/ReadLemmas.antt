-- The data that are read to identify a file.
use Rattle.std.proofs.Common.{◌≡◌, ℕ, List, All, Option, Some, None, IfSome, Result, Ok, ◌∙◌}
use Rattle.mkv_schema.specs.declared.ids.TheConstants.{TAGS}
use Rattle.mkv_io.specs.declared.damage.Damage.{Damage}
use Rattle.mkv_io.specs.declared.outside.FileId.{FileId}
use Rattle.mkv_io.specs.Results.{and_then}
use Rattle.element_reader.specs.Outline.{FileOutline}
use Rattle.tree_format.specs.Node.{Node}
use Rattle.tree_format.specs.Standing.{IsSoundOf}
use Rattle.ebml_tree.specs.Building.{IsRead}
use Rattle.output_model.specs.declared.attachment.Attachment.{Attachment}
use Rattle.meta_records.specs.Walk.{IsAttachedIn}
use Rattle.meta_records.specs.Records.{AreGood, FileRecords, file_records}
use Rattle.meta_records.specs.declared.records.Records.{Records}
use Rattle.mkv_info.specs.Sound.{CanBeTold, IsAttached}
use Rattle.mkv_info.specs.Read.{Described}

-- ---- the records that were read can be described

each_attached : (file : FileId) (total : ℕ) (list : List Attachment) → All (IsAttachedIn file total) list → All IsAttached list
each_attached file total list are = λ k d below. let is = are k d below in record { id = is.entry.is.id; sound = is.entry.is.sound }

sound_of : (own : ℕ) (tree : Option Node) → IfSome tree (IsRead own) → IfSome tree (IsSoundOf own)
sound_of own None read = read
sound_of own (Some n) read = record { id = read.id; sound = read.sound }

pub CanBeTold-read : (file : FileId) (total : ℕ) (r : Records) → AreGood file total r → CanBeTold r
CanBeTold-read file total r good = record {
  info = good.info;
  tracks = good.tracks.sound;
  attachments = each_attached file total r.attachments good.attachments;
  tags = sound_of TAGS r.tags good.tags;
}

pub ruleset told = (CanBeTold-read)

-- ---- reading the file

-- the data after an outline
abbrev behind : List ℕ → FileOutline → Result Described Damage
behind bytes v = and_then (file_records bytes v.segment) (λ (r : FileRecords). Ok (record { records = r; damage = v.damage }))
