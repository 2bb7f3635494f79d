-- Laws on the input files of a merge while other files are written.
use Rattle.std.specs.Prelude.{ℕ, List, ◌++◌}
use Rattle.std.specs.List.{All}
use Rattle.mkv_io.specs.declared.outside.FileId.{FileId}
use Rattle.mkv_io.specs.LiveFiles.{IsSameFile}
use Rattle.mkv_io.specs.Names.{AreOthers}
use Rattle.mkv_io.specs.Sources.{live_files}
use Rattle.mkv_io.specs.Writing.{KeepsOthers, UsesOnly}
use Rattle.mkv_io.specs.declared.reads.Reads.{Ghosts}
use Rattle.mkv_io.specs.declared.files.Files as writing
use Rattle.mkv_outputs.specs.Sinks.{EndsOnly}
use Rattle.input_files.specs.Inputs.{AreInputs, OpensInputs}

-- From the state `old` to `new`, files with the names `written` were written. The input files `ids` are still open under `names`, and each whose name
-- wasn't written is unchanged. Used by `AreUnaffectedByWrites`, in the law on the open inputs of `merge`.
pub record StandsOver {S : Type 0} (r : Ghosts S) (f : writing.Ghosts S) (names written : List (List ℕ)) (old new : S) (ids : List FileId) : Type 0 where
  pub inputs : AreInputs r f names new ids
  pub same : All (λ (s : FileId). AreOthers (f.holder old s.n) written → IsSameFile (live_files r old) (live_files r new) s.n) ids

-- Files that are open under `names` are unaffected by writes to other names: they stay open, and each whose name wasn't written is unchanged. The law
-- `inputs_stand_over_writes` states it. `r` gives the proof's view of the files.
abbrev pub AreUnaffectedByWrites : {S : Type 0} → Ghosts S → writing.Ghosts S → Type 0
AreUnaffectedByWrites {S} r f = (names written : List (List ℕ)) (old new : S) (ids : List FileId)
    → AreInputs r f names old ids → KeepsOthers r f written old new → StandsOver r f names written old new ids

-- Input files were opened from the state `start` to `opened`, other names used and written until `done`, and the input files closed until `end`. Then
-- only these names and the inputs' were used, and only the written ones changed. The law `inputs_end_as_begun` states it. `r` gives the proof's view
-- of the files.
abbrev pub EndAsBegun : {S : Type 0} → Ghosts S → writing.Ghosts S → Type 0
EndAsBegun {S} r f = (names uses written : List (List ℕ)) (start opened done end : S) (ids : List FileId)
    → OpensInputs r f names start opened ids → UsesOnly r f uses written opened done → EndsOnly r f done end ids
    → UsesOnly r f (names ++ uses) written start end
