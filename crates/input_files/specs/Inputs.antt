-- The input files of a merge: how they are opened, and which of them is missing or has a pending edit. The rule is this project's.
use Rattle.std.specs.Prelude.{◌≡◌, ◌≤◌, ⊤, ℕ, nat_lt, Bool, true, false, List, [], map, Option, Some, None, is_none, Result, Ok, Err}
use Rattle.std.specs.List.{All, position_from}
use Rattle.mkv_io.specs.declared.outside.FileId.{FileId}
use Rattle.mkv_io.specs.declared.outside.OpenFault.{OpenFault}
use Rattle.mkv_io.specs.declared.outside.OpenFault.TheVariants as open_fault
use Rattle.mkv_io.specs.Asked.{AsksOnly}
use Rattle.mkv_io.specs.LiveFiles.{KeepsFiles, KeepsHolders, LiveFiles}
use Rattle.mkv_io.specs.Sources.{live_files}
use Rattle.mkv_io.specs.declared.reads.Reads.{Ghosts}
use Rattle.mkv_io.specs.declared.files.Files as writing
use Rattle.sidecar_edit.specs.Pending.{is_pending}
use Rattle.requests.specs.declared.merge.AttachedWords.{AttachedWords}
use Rattle.requests.specs.declared.merge.FileWords.{FileWords}
use Rattle.mkv_outputs.specs.Sinks.{AreLive, AreRising, IsNoneOf, holders_of}
use Rattle.input_files.specs.declared.limits.TheConstants.{MAX_ATTACHED_LEN}
use Rattle.input_files.specs.declared.inputs_end.InputsEnd.{InputsEnd}
use Rattle.input_files.specs.declared.inputs_end.InputsEnd.TheVariants as inputs_end
use Rattle.mkv_io.specs.Told.{IfVisible}
use Rattle.mkv_io.specs.Writing.{IfByNames}

-- the names of the inputs `words`, in the order of the command line. Used by all contracts on inputs.
abbrev pub file_names : List FileWords → List (List ℕ)
file_names words = map (λ (w : FileWords). w.name) words

-- the names of the files that a merge attaches by the requests `attached`, in the order of the command line. Used by the contracts on opened files.
abbrev pub attached_names : List AttachedWords → List (List ℕ)
attached_names attached = map (λ (w : AttachedWords). w.file) attached

-- the contents of the open files `ids`, as far as `content`, which gives them by file number, has them. For contracts on what inputs contain.
abbrev pub contents_of : (ℕ → Option (List ℕ)) → List FileId → List (Option (List ℕ))
contents_of content ids = map (λ (f : FileId). content f.n) ids

-- ---- files

-- In the state `files`, the files `ids` are open under the names `names`, in this order, and have increasing numbers. `r` and `f` show them to the
-- proof. A condition of the stages of `merge` that read inputs.
pub record AreInputs {S : Type 0} (r : Ghosts S) (f : writing.Ghosts S) (names : List (List ℕ)) (files : S) (ids : List FileId) : Type 0 where
  pub live : AreLive (live_files r files).live ids
  pub rising : AreRising ids
  pub under : holders_of (f.holder files) ids ≡ names

-- From the state `old` to `new`, the files `ids` were opened under the names `names`, and have new numbers. Other files are open as before, and
-- unchanged with their names. The contract of `open_all` states it.
pub record OpensInputs {S : Type 0} (r : Ghosts S) (f : writing.Ghosts S) (names : List (List ℕ)) (old new : S) (ids : List FileId) : Type 0 where
  pub inputs : AreInputs r f names new ids
  pub newer : All (λ (s : FileId). f.given old ≤ s.n) ids
  pub besides : (file : ℕ) → IsNoneOf file ids → (live_files r new).live file ≡ (live_files r old).live file
  pub given : f.given old ≤ f.given new
  pub holders : KeepsHolders (live_files r old).live (f.holder old) (f.holder new)
  pub others : KeepsFiles (live_files r old) (live_files r new) (λ file. (live_files r old).live file ≡ true)
  pub asks : AsksOnly names [] (f.asked old) (f.asked new)

-- From the state `old` to `new`, no name's content changed, nothing was written, and no byte was read. The contract of `open_all` states it.
pub record LeavesContents {S : Type 0} (r : Ghosts S) (f : writing.Ghosts S) (old new : S) : Type 0 where
  pub names : f.names new ≡ f.names old
  pub writing : f.writing_faults new ≡ f.writing_faults old
  pub octets : r.octets_read new ≡ r.octets_read old

-- ---- refusals

-- the index, from 0, of the first of `names` that has no content in `world`, if any. `merge` is refused then.
abbrev pub first_missing : (List ℕ → Option (List ℕ)) → List (List ℕ) → Option ℕ
first_missing world names = position_from (λ name. is_none (world name)) 0 names

-- The result of opening files with the names `names` reports the first that has no content in `world`, if any. A call may fail before it, or memory
-- may run out. The contract of `open_all` states it.
abbrev pub TellsMissing : (List ℕ → Option (List ℕ)) → List (List ℕ) → Result (List FileId) InputsEnd → Type 0
TellsMissing world names (Ok ids) = first_missing world names ≡ None
TellsMissing world names (Err (inputs_end.Missing input)) = first_missing world names ≡ Some input
TellsMissing world names (Err inputs_end.Failed) = ⊤
TellsMissing world names (Err inputs_end.Memory) = ⊤

-- the error for the name with the index `k`, from 0, whose file couldn't be opened for the given reason. The contract of the function of the same name
-- states it.
abbrev pub end_of : ℕ → OpenFault → InputsEnd
end_of k open_fault.Missing = inputs_end.Missing k
end_of k open_fault.Failed = inputs_end.Failed
end_of k open_fault.Memory = inputs_end.Memory

-- the index, from 0, of the first of `names` whose journal in `world` has a pending edit, if any. `merge` is refused then.
abbrev pub first_pending : (List ℕ → Option (List ℕ)) → List (List ℕ) → Option ℕ
first_pending world names = position_from (is_pending world) 0 names

-- `result` has the index of the first of the inputs `words` with a pending edit, if any. It is promised if the names are visible to the proof in the
-- state `old`. The contract of `first_pending` states it. `f` gives the proof's view of the files.
abbrev pub FindsPending : {S E : Type 0} → writing.Ghosts S → List FileWords → S → Result (Option ℕ) E → Type 0
FindsPending f words old result = IfByNames f old result (λ world first. first ≡ first_pending world (file_names words))

-- The inputs couldn't be opened because a call of the system failed. The count of failed calls rises exactly then: for the contract of `open_all`.
abbrev pub is_inputs_fault : InputsEnd → Bool
is_inputs_fault (inputs_end.Missing input) = false
is_inputs_fault inputs_end.Failed = true
is_inputs_fault inputs_end.Memory = false

-- In the state `new`, the open files `ids` have the contents that the names `names` had in `old`. It is promised if the names are visible to the
-- proof. The contract of `open_all` states it. `r` and `f` give the proof's view of the files.
abbrev pub HaveContents : {S : Type 0} → Ghosts S → writing.Ghosts S → List (List ℕ) → S → S → List FileId → Type 0
HaveContents r f names old new ids = IfVisible (f.names old) (λ world. contents_of (live_files r new).content ids ≡ map world names)

-- the lengths in bytes of the live files `f` with the IDs `ids`, in their order. For the contract of `first_large`.
abbrev pub sizes_of : LiveFiles → List FileId → List ℕ
sizes_of f ids = map (λ (file : FileId). f.size file.n) ids

-- the index, from 0, of the first of the lengths `lens`, in bytes, that is too large for a file that is attached, if any. `merge` is refused then.
abbrev pub first_large : List ℕ → Option ℕ
first_large lens = position_from (λ len. nat_lt MAX_ATTACHED_LEN len) 0 lens
