-- The outputs of an extraction of attached files: RFC 9559, section 5.1.6 (Attachments Element).
use Rattle.std.specs.Prelude.{ℕ, suc, zero, ◌+◌, ◌*◌, ◌≤◌, List, [], ◌∷◌, map, All, Option, Some, None, slice_get, Result}
use Rattle.std.specs.List.{flat_map}
use Rattle.mkv_io.specs.Contents.{octets_from}
use Rattle.mkv_io.specs.Sources.{IfTold, file_size}
use Rattle.mkv_io.specs.declared.outside.FileId.{FileId}
use Rattle.mkv_io.specs.declared.reads.Reads.{Ghosts}
use Rattle.mkv_io.specs.declared.files.Files as writing
use Rattle.requests.specs.declared.job.Target.{Target}
use Rattle.mkv_outputs.specs.Outputs.{Output}
use Rattle.meta_records.specs.Attached.{AttachedFile, in_file}
use Rattle.meta_records.specs.Walk.{IsAttachedIn}
use Rattle.extractors.specs.Whole.{AreWritten, output}
use Rattle.extractors.specs.declared.source.Source.{Source}

-- the member of `list` with the number `n`, counted from 1, or None for 0 or a number past the last. Attached files are numbered so on the command
-- line. Used by `attached_outputs` and `WritesAttachment`.
abbrev pub attached_at : {A : Type 0} → List A → ℕ → Option A
attached_at list zero = None
attached_at list (suc n) = slice_get list n

-- the data of the attached file `a`, if its source has the content `bytes`, as `extract` writes it
abbrev pub data_in : List ℕ → AttachedFile → List ℕ
data_in bytes a = octets_from bytes a.at a.len

-- the output of the target `t` of `extract`, if `bytes` is the content of the source: the data of the attached file that it names, the last argument.
-- There is none without such an attached file (None).
abbrev pub attached_output : List ℕ → Target → Option AttachedFile → List Output
attached_output bytes t None = []
attached_output bytes t (Some a) = output t.name (data_in bytes a) ∷ []

-- the outputs of an extraction of attached files, one for each of `targets` that names one of `files`, in the order of the targets. `bytes` is the
-- content of the file. Used by `WritesAttached` and `attached_taken`.
abbrev pub attached_outputs : List ℕ → List Target → List AttachedFile → List Output
attached_outputs bytes targets files = flat_map (λ (t : Target). attached_output bytes t (attached_at files t.id)) targets

-- ---- the effects of the calls

-- In the state `files`, the data of all attached files of the source `s` is inside its file; their extraction requires it. `r` gives the proof's view
-- of the files.
abbrev pub HasAttached : {S : Type 0} → Ghosts S → S → Source → Type 0
HasAttached r files s = All (IsAttachedIn s.file (file_size r files s.file)) s.attachments

-- A call of `write_attachment` has written the output of the target `t` from the source `s`: `old` and `new` are the states before and after. After
-- success the output is complete. It is absent if the source has no such attached file. After a failure the file may have only a first part. No other
-- name changes. `r` and `f` give the proof's view of the files. `result` is what the call returned.
abbrev pub WritesAttachment : {S T E : Type 0} → Ghosts S → writing.Ghosts S → Source → Target → S → S → Result T E → Type 0
WritesAttachment r f s t old new result =
    IfTold r old s.file (λ bytes. AreWritten (f.names old) (f.names new) (attached_output bytes t (attached_at (map in_file s.attachments) t.id)) result)

-- A call of `write_attachments` has written the outputs of `targets` from the source `s`. `old` and `new` are the states before and after. After
-- success they are complete. After a failure some first outputs exist, each with a first part of its content. No other name changes. `r` and `f` give
-- the proof's view of the files. `result` is what the call returned.
abbrev pub WritesAttached : {S T E : Type 0} → Ghosts S → writing.Ghosts S → Source → List Target → S → S → Result T E → Type 0
WritesAttached r f s targets old new result =
    IfTold r old s.file (λ bytes. AreWritten (f.names old) (f.names new) (attached_outputs bytes targets (map in_file s.attachments)) result)

-- From the state `old` to the state `new`, at most `times` times the length of the file `file` is read, in bytes. An extraction of attached files
-- promises it, with the number of its targets. `r` gives the proof's view of the files.
abbrev pub ReadsTimes : {S : Type 0} → Ghosts S → ℕ → FileId → S → S → Type 0
ReadsTimes r times file old new = r.octets_read new ≤ r.octets_read old + times * file_size r old file
