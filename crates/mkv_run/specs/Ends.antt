-- The ways for a run to end, given its outcome: with it, or before it after a failure. The rules are this project's.
use Rattle.std.specs.Prelude.{◌≡◌, ◌⊎◌, ℕ, ◌++◌, List, [], ◌∷◌}
use Rattle.mkv_io.specs.Lines.{with_lines}
use Rattle.mkv_lines.specs.Faults.{FilesRose, ReportRose}
use Rattle.mkv_lines.specs.Line.{disk_fault_line, files_fault_line}
use Rattle.mkv_lines.specs.Said.{ReportLines, SaysPart}
use Rattle.mkv_lines.specs.Verdict.{IsDone, IsStopped, StopsSaying, Verdict}
use Rattle.mkv_lines.specs.declared.status.Status.{Status}
use Rattle.mkv_lines.specs.declared.status.Status.TheVariants as status
use Rattle.mkv_run.specs.RunSeen.{DiskRose, RunSeen}

-- From the report `old` to `new`, a first part of the lines `all` was printed, and then the line `fault`. A case of `EndsOutside`, in the promise of
-- a whole run.
pub record SaysFault (old new : ReportLines) (all : List (List ℕ)) (fault : List ℕ) : Type 0 where
  pub said : List (List ℕ)
  pub left : List (List ℕ)
  pub whole : all ≡ said ++ left
  pub added : new ≡ with_lines old (said ++ fault ∷ [])

-- From the state `old` to `new`, a call of the system has failed. After a failure of the files, a first part of the lines `all` and the line of the
-- failure are printed. After a failure of the disk, only the line of the failure is printed. The line of the failure is missing only if the report
-- failed. `all` are the lines of the command's outcome. A case of `Ends`, in the promise of a whole run.
abbrev pub EndsOutside : RunSeen → RunSeen → List (List ℕ) → Type 0
EndsOutside old new all =
    (FilesRose old.seen.counts new.seen.counts × SaysFault old.seen.lines new.seen.lines all files_fault_line)
    ⊎ ((DiskRose old.disk new.disk × (new.seen.lines ≡ with_lines old.seen.lines (disk_fault_line ∷ [])))
    ⊎ (ReportRose old.seen.counts new.seen.counts × SaysPart old.seen.lines new.seen.lines all))

-- A run from the state `old` to `new` with the outcome `v` ends with its status, lines and outputs. If memory runs out or a call of the system fails,
-- it ends with a first part of them. Then no line after the outputs is printed unless the outputs are complete. Used by the contract of
-- `run_command_line`.
abbrev pub Ends : RunSeen → RunSeen → Status → Verdict → Type 0
Ends old new status.NoMemory v = IsStopped old.seen new.seen v
Ends old new status.Outside v = StopsSaying (EndsOutside old new) old.seen.names new.seen.names v
Ends old new s v = (s ≡ v.status) × IsDone old.seen new.seen v
