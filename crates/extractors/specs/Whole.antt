-- The effects of a call that creates, writes and closes one file.
use Rattle.std.specs.Prelude.{◌≡◌, ◌≤◌, ℕ, ◌+◌, List, [], ◌∷◌, Result, Ok, Err}
use Rattle.mkv_io.specs.Names.{Names}
use Rattle.mkv_io.specs.Sources.{live_files}
use Rattle.mkv_io.specs.declared.outside.FileId.{FileId}
use Rattle.output_model.specs.Attached.{octets_told}
use Rattle.mkv_io.specs.Writing.{KeepsOthers}
use Rattle.mkv_io.specs.declared.reads.Reads.{Ghosts}
use Rattle.mkv_io.specs.declared.files.Files as writing
use Rattle.mkv_io.specs.Ends.{HasRemuxCause}
use Rattle.mkv_io.specs.declared.remux_end.RemuxEnd.{RemuxEnd}
use Rattle.mkv_outputs.specs.Outputs.{Output, with_outputs}
use Rattle.mkv_outputs.specs.Starts.{ArePrefixes}

-- the output of an extraction with the name `name` and the content `octets`; for `attached_output` and `cues_output`
abbrev pub output : List ℕ → List ℕ → Output
output name octets = record { name = name; content = octets }

-- `len` bytes of the file `file`, which is open in the state `files`, starting at the offset `at`: the data of an attached file. `r` gives the
-- proof's view of the files. Used by `CopiesFile`.
abbrev pub octets_in : {S : Type 0} → Ghosts S → S → FileId → ℕ → ℕ → List ℕ
octets_in r files file at len = octets_told ((live_files r files).content file.n) at len

-- From the names `old` to the names `new`, the outputs `outputs` of an extraction were written and no other name has changed. If the last argument is
-- an error, some first outputs exist, each with a first part of its content.
abbrev pub AreWritten : {T E : Type 0} → Names → Names → List Output → Result T E → Type 0
AreWritten old new outputs (Ok _) = new ≡ with_outputs old outputs
AreWritten old new outputs (Err _) = ArePrefixes old new outputs

-- A call of `write_file` has created or replaced the file `name` with the bytes `octets`, and closed it. `old` and `new` are the states before and
-- after. After a failure it may have only a first part. No other name is written, the same files are open, and at most `most` bytes are read.
pub record WritesFile {S T : Type 0} (r : Ghosts S) (f : writing.Ghosts S) (name octets : List ℕ) (most : ℕ) (old new : S) (result : Result T RemuxEnd) : Type 0 where
  pub writes : AreWritten (f.names old) (f.names new) (output name octets ∷ []) result
  pub kept : KeepsOthers r f (name ∷ []) old new
  pub cause : HasRemuxCause r f old new result
  pub reads : r.octets_read new ≤ r.octets_read old + most

-- A call of `copy_file` has created or replaced the file `name` with `len` bytes of the open file `from`, starting at the offset `at`. Each of them
-- is read once. `old` and `new` are the states before and after. `r` and `f` give the proof's view of the files. `result` is what the call returned.
abbrev pub CopiesFile : {S T : Type 0} → Ghosts S → writing.Ghosts S → List ℕ → FileId → ℕ → ℕ → S → S → Result T RemuxEnd → Type 0
CopiesFile r f name from at len old new result = WritesFile r f name (octets_in r old from at len) len old new result
