-- An AttachedFile as it is written: RFC 9559, section 5.1.6 (Attachments).
use Rattle.std.specs.Prelude.{◌≡◌, ℕ, ◌+◌, ◌==◌, List, [], ◌∷◌, ◌++◌, length, flat_map, take, drop, sum_by, All}
use Rattle.std.specs.List.{position_or_len}
use Rattle.mkv_io.specs.LiveFiles.{LiveFiles}
use Rattle.mkv_schema.specs.declared.ids.TheConstants.{ATTACHMENTS, ATTACHED_FILE, FILE_DATA}
use Rattle.tree_format.specs.Node.{Node, id_of, children}
use Rattle.tree_format.specs.NormalForm.{header_octets, octets}
use Rattle.tree_format.specs.Changes.{without}
use Rattle.output_model.specs.declared.attachment.Attachment.{Attachment}
use Rattle.output_model.specs.Attached.{data_of}
use Rattle.output_model.specs.declared.places.Seek.{Seek}

-- the place of the data in an AttachedFile with the children `ns`: the index of its first FileData, counted from 0, or the length of `ns` without
-- one. The writer appends the data there, and leaves out all other FileData. Used by `data_index`, `before_data` and others.
abbrev pub data_place : List Node → ℕ
data_place ns = position_or_len (λ n. id_of n == FILE_DATA) ns

-- the length in bytes of the content of the AttachedFile of `a`, with its data, for the size in its header. Used by `body_len`, `attached_total` and
-- others.
abbrev pub attached_body : Attachment → ℕ
attached_body a = length (flat_map octets (without FILE_DATA (children a.entry))) + (length (header_octets FILE_DATA a.len) + a.len)

-- the length in bytes of the AttachedFile of `a` in an output, with its header and its data. Used by `attached_len`, `attachments_len` and others.
abbrev pub attached_total : Attachment → ℕ
attached_total a = length (header_octets ATTACHED_FILE (attached_body a)) + attached_body a

-- the header of an output's Attachments with the given attached files, or no bytes without any. Its size counts the AttachedFiles with their data.
-- Used by `front_head` and the contract of `add_attachments`.
abbrev pub attachments_header : List Attachment → List ℕ
attachments_header [] = []
attachments_header (a ∷ attachments) = header_octets ATTACHMENTS (sum_by attached_total (a ∷ attachments))

-- the Seek of an output's Attachments at the position `position`, in bytes inside the Segment's content, or no Seek without attached files; for
-- `seeks_behind` and `front_seeks`
abbrev pub attachments_seeks : ℕ → List Attachment → List Seek
attachments_seeks position [] = []
attachments_seeks position (a ∷ attachments) = record { id = ATTACHMENTS; position = position } ∷ []

-- the bytes that are written of the attached file `a` before its data: the header of the AttachedFile, its children before the first FileData, and
-- the header of FileData; for the contract of `octets_before_data`
abbrev pub before_data : Attachment → List ℕ
before_data a =
    header_octets ATTACHED_FILE (attached_body a)
    ++ (flat_map octets (take (data_place (children a.entry)) (children a.entry)) ++ header_octets FILE_DATA a.len)

-- the bytes that are written of the attached file `a` after its data: its children after the first FileData, without any other FileData; for the
-- contract of `octets_behind_data`
abbrev pub behind_data : Attachment → List ℕ
behind_data a = flat_map octets (without FILE_DATA (drop (data_place (children a.entry)) (children a.entry)))

-- The data of each of `attachments` in the live files `files` have the length that it states. Proofs on the front of an output suppose it.
abbrev pub HaveData : LiveFiles → List Attachment → Type 0
HaveData files attachments = All (λ (a : Attachment). length (data_of files a) ≡ a.len) attachments

-- the Seek of an output's Attachments after the bytes `out`, which begin `at` bytes inside the Segment's content, or no Seek without `attachments`;
-- for the contract of `add_attachments`
abbrev pub seeks_behind : ℕ → List ℕ → List Attachment → List Seek
seeks_behind at out attachments = attachments_seeks (at + length out) attachments
