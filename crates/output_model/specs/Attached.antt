-- Attached files: RFC 9559, section 5.1.6 (Attachments Element).
use Rattle.std.specs.Prelude.{ℕ, List, replicate, Option, Some, None}
use Rattle.mkv_schema.specs.declared.ids.TheConstants.{FILE_DATA}
use Rattle.mkv_io.specs.Contents.{octets_from}
use Rattle.mkv_io.specs.LiveFiles.{LiveFiles}
use Rattle.tree_format.specs.Node.{Node, leaf, children, with_children}
use Rattle.tree_format.specs.Changes.{with_child}
use Rattle.output_model.specs.declared.attachment.Attachment.{Attachment}

-- the `n` bytes from the offset `at` of the given content, or `n` zeros if the content (None) isn't visible to the proof. Data that `merge` or
-- `extract` copies from a file are defined by it.
abbrev pub octets_told : Option (List ℕ) → ℕ → ℕ → List ℕ
octets_told None at n = replicate n 0
octets_told (Some bytes) at n = octets_from bytes at n

-- the data of the attached file `a`, from the live file among `files` that has them; zeros if its content isn't visible to the proof. Used by
-- `attached_file`.
abbrev pub data_of : LiveFiles → Attachment → List ℕ
data_of files a = octets_told (files.content a.file.n) a.at a.len

-- the AttachedFile `entry` with `bytes` as its FileData, in place of its first FileData, or after all other children. It has no other FileData. This
-- is the AttachedFile that `merge` writes.
abbrev pub with_data : List ℕ → Node → Node
with_data bytes entry = with_children entry (with_child (leaf FILE_DATA 0 bytes) (children entry))

-- the AttachedFile of the attached file `a` as an output of `merge` has it, with its data in `files`, the live files before the merge
abbrev pub attached_file : LiveFiles → Attachment → Node
attached_file files a = with_data (data_of files a) a.entry
