-- The content of a report after lines were printed, if it is visible to the proof.
use Rattle.std.specs.Prelude.{◌≡◌, ⊤, ℕ, ◌++◌, List, Option, Result, Ok, Err}
use Rattle.mkv_io.specs.Faults.{HasIncreased}
use Rattle.mkv_io.specs.Lines.{with_lines}
use Rattle.mkv_lines.specs.declared.status.CommandEnd.{CommandEnd}
use Rattle.mkv_lines.specs.declared.status.CommandEnd.TheVariants as stop

-- the lines of a report, if they are visible to the proof; otherwise None. Contracts of functions that print use them. Used by `SaysPart`, `SaysUpTo`
-- and others.
abbrev pub ReportLines : Type 0
ReportLines = Option (List (List ℕ))

-- From the report `old` to `new`, a first part of the lines `all` was printed. A command that ended early leaves this.
pub record SaysPart (old new : ReportLines) (all : List (List ℕ)) : Type 0 where
  pub said : List (List ℕ)
  pub left : List (List ℕ)
  pub whole : all ≡ said ++ left
  pub added : new ≡ with_lines old said

-- From the report `old` to `new`, the lines of `all` before `left` were printed. It is used by proofs about lines that are printed in a loop.
pub record SaysUpTo (old new : ReportLines) (all left : List (List ℕ)) : Type 0 where
  pub said : List (List ℕ)
  pub whole : all ≡ said ++ left
  pub added : new ≡ with_lines old said

-- From the report `old` to `new`, the lines `all` were printed. If the call failed, a first part of them was. Used by the contracts of `say` and
-- `say_text`.
abbrev pub Says : {T : Type 0} → ReportLines → ReportLines → List (List ℕ) → Result T CommandEnd → Type 0
Says old new all (Ok _) = new ≡ with_lines old all
Says old new all (Err _) = SaysPart old new all

-- From the report `old` to `new`, no line was printed if the disk failed or memory ran out. The lines are the last step of a change in place. Used by
-- the contracts of `propedit`, `reindex` and `recover`.
abbrev pub SaysLast : {T : Type 0} → ReportLines → ReportLines → Result T CommandEnd → Type 0
SaysLast old new (Err stop.Disk) = new ≡ old
SaysLast old new (Err stop.Memory) = new ≡ old
SaysLast old new result = ⊤

-- A call that only prints lines fails with the report only if its failure count increased, from `before` to `now`. Every other result leaves the
-- count as it was. Used by the contracts of `say` and `refuse`.
abbrev pub HasSayCause : {T : Type 0} → ℕ → ℕ → Result T CommandEnd → Type 0
HasSayCause before now (Ok _) = now ≡ before
HasSayCause before now (Err stop.Memory) = now ≡ before
HasSayCause before now (Err stop.Report) = HasIncreased before now
HasSayCause before now (Err stop.Files) = ⊥
HasSayCause before now (Err stop.Disk) = ⊥
