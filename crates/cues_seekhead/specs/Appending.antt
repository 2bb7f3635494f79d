-- Bytes that are appended to a file, some of them copied from others.
use Rattle.std.specs.Prelude.{◌≡◌, ◌≤◌, ℕ, ◌+◌, List, [], ◌∷◌, ◌++◌, length, map, sum_by, Result, Ok, Err, OnOk}
use Rattle.mkv_io.specs.declared.outside.FileId.{FileId}
use Rattle.mkv_io.specs.Contents.{with_appended}
use Rattle.mkv_io.specs.Names.{Names, with_change}
use Rattle.mkv_io.specs.Sources.{content_of, file_size, live_files}
use Rattle.mkv_io.specs.Writing.{KeepsOthers}
use Rattle.mkv_io.specs.declared.reads.Reads.{Ghosts}
use Rattle.mkv_io.specs.declared.files.Files as writing
use Rattle.mkv_io.specs.Ends.{HasRemuxCause}
use Rattle.mkv_io.specs.declared.remux_end.RemuxEnd.{RemuxEnd}
use Rattle.mkv_outputs.specs.Written.{PassesSome}
use Rattle.mkv_io.specs.LiveFiles.{LiveFiles}
use Rattle.output_model.specs.declared.attachment.Attachment.{Attachment}
use Rattle.output_model.specs.Attached.{attached_file, octets_told}
use Rattle.output_model.specs.Element.{joined, octets_of}
use Rattle.output_model.specs.Document.{tree_element}

-- From the contents of names `old` to `new` the bytes `octets` were appended to the file `name`, and other names are unchanged. If the last argument
-- is an error, only a prefix was appended. Used by `AppendsToLive`.
abbrev pub IsAppended : {T E : Type 0} → Names → Names → List ℕ → List ℕ → Result T E → Type 0
IsAppended old new name octets (Ok _) = new ≡ with_change old name (with_appended octets)
IsAppended old new name octets (Err _) = PassesSome old new name octets

-- From `old` to `new` the bytes `octets` were appended to the live file `file`, and at most `most` bytes were read from others. All other files are
-- unchanged. `r` and `f` give the proof's view of the files, and `result` is the call's: after an error only a prefix was appended.
pub record AppendsOnly {S T : Type 0} (r : Ghosts S) (f : writing.Ghosts S) (file : FileId) (octets : List ℕ) (most : ℕ) (old new : S) (result : Result T RemuxEnd) : Type 0 where
  pub appended : IsAppended (f.names old) (f.names new) (f.holder old file.n) octets result
  pub size : OnOk result (file_size r new file ≡ file_size r old file + length octets)
  pub kept : KeepsOthers r f (f.holder old file.n ∷ []) old new
  pub cause : HasRemuxCause r f old new result
  pub reads : r.octets_read new ≤ r.octets_read old + most

-- From `old` to `new` the AttachedFile of `a` was appended to the live output `file`, with its data; the contract of `add_attachment`. `r` and `f`
-- give the proof's view of the files. If `result` is an error, only a prefix was appended.
abbrev pub AppendsAttachment : {S T : Type 0} → Ghosts S → writing.Ghosts S → FileId → Attachment → S → S → Result T RemuxEnd → Type 0
AppendsAttachment r f file a old new result = AppendsOnly r f file (octets_of (tree_element (attached_file (live_files r old) a))) a.len old new result

-- the bytes of the AttachedFiles of all `attachments`, with their data in the live files `files`, as an output has them in its Attachments; for
-- `AppendsAttached`
abbrev pub attached_octets : LiveFiles → List Attachment → List ℕ
attached_octets files attachments = joined (map tree_element (map (attached_file files) attachments))

-- the number of bytes of data of all `attachments`, which bounds what is read while an output's front is written; for `AppendsAttached` and the
-- contract of `begin`
abbrev pub data_octets : List Attachment → ℕ
data_octets attachments = sum_by (λ (a : Attachment). a.len) attachments

-- From `old` to `new` the bytes `before` and the AttachedFiles of all `attachments` were appended to the live output `file`. `r` and `f` give the
-- proof's view of the files. If `result` is an error, only a prefix was appended. The front of an output is written so.
abbrev pub AppendsAttached : {S T : Type 0} → Ghosts S → writing.Ghosts S → FileId → List ℕ → List Attachment → S → S → Result T RemuxEnd → Type 0
AppendsAttached r f file before attachments old new result =
    AppendsOnly r f file (before ++ attached_octets (live_files r old) attachments) (data_octets attachments) old new result

-- From `old` to `new` `len` bytes of the live file `from`, starting at the offset `at`, were appended to the file `to`; the contract of `copy_data`.
-- `r` and `f` give the proof's view of the files. If `result` is an error, only a prefix was appended.
abbrev pub AppendsCopy : {S T : Type 0} → Ghosts S → writing.Ghosts S → FileId → FileId → ℕ → ℕ → S → S → Result T RemuxEnd → Type 0
AppendsCopy r f to from at len old new result = AppendsOnly r f to (octets_told (content_of r old from) at len) len old new result

-- From `old` to `new` the bytes `octets` were appended to the live file `file`, as the contract of `cluster` promises. `f` gives the proof's view of
-- the files. If `result` is an error, only a prefix was appended.
abbrev pub AppendsToLive : {S T E : Type 0} → writing.Ghosts S → FileId → List ℕ → S → S → Result T E → Type 0
AppendsToLive f file octets old new result = IsAppended (f.names old) (f.names new) (f.holder old file.n) octets result
