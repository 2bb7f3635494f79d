-- The outcome of `recover`: its status and its lines. All of it is this project's.
use Rattle.std.specs.Prelude.{ℕ, Bool, if◌then◌else◌, List, [], ◌∷◌, Option, Some, None, Result, Ok, Err}
use Rattle.mkv_disk.specs.declared.disk.Disk.{Ghosts}
use Rattle.mkv_lines.specs.Line.{bad_sidecar_line, foreign_line, missing_line, nothing_line, recovered_line}
use Rattle.mkv_lines.specs.Verdict.{Verdict, done, refused}
use Rattle.sidecar_edit.specs.declared.outcome.Recovered.{Recovered}
use Rattle.sidecar_edit.specs.declared.outcome.Recovered.TheVariants.{Applied, Nothing}
use Rattle.sidecar_edit.specs.declared.outcome.RecoverEnd.{RecoverEnd}
use Rattle.sidecar_edit.specs.declared.outcome.RecoverEnd.TheVariants.{BadSidecar, DiskFault, Foreign}
use Rattle.sidecar_edit.specs.Recovery.{recovery}
use Rattle.mkv_io.specs.declared.report.Report.{Ghosts as ReportGhosts}
use Rattle.mkv_lines.specs.declared.status.Status.{Status}
use Rattle.mkv_lines.specs.declared.status.CommandEnd.{CommandEnd}
use Rattle.mkv_propedit.specs.Command.{SaysOfDisk}

-- the outcome of `recover` for the file `name`, by the result of the recovery; nothing is printed if the disk failed
abbrev pub told : List ℕ → Result Recovered RecoverEnd → Verdict
told name (Ok Applied) = done (recovered_line name ∷ [])
told name (Ok Nothing) = done (nothing_line name ∷ [])
told name (Err (BadSidecar offset)) = refused (bad_sidecar_line name offset)
told name (Err (Foreign mark kept found)) = refused (foreign_line name mark kept found)
told name (Err DiskFault) = done []

-- the outcome of `recover` for the file `name` with the content `media` and a journal with the content `sidecar`; `is_there` is whether the file
-- exists
abbrev pub recover_verdict : Bool → List ℕ → List ℕ → List ℕ → Verdict
recover_verdict is_there name media sidecar = if is_there then told name (recovery media sidecar) else refused (missing_line name)

-- The call prints the outcome of `recover` for the file `name`. `disk` is the state of the disk before, `report` and `report'` are the states of the
-- report before and after. It is promised if the disk is visible to the proof. Used by the contract of `recover_of`. `d` and `p` give the proof's
-- view of the disk and the report. `result` is what the call returned.
abbrev pub SaysOfRecover : {D P : Type 0} → Ghosts D → ReportGhosts P → D → P → P → Result Status CommandEnd → List ℕ → Type 0
SaysOfRecover d p disk report report' result name = SaysOfDisk d p disk report report' result (recover_verdict (d.is_there disk name) name)

-- The call prints the outcome of `recover` for the file `name`, which is open with its journal on `disk`. `report` and `report'` are the states of
-- the report before and after. It is promised if the disk is visible to the proof. Used by the contract of `recover_open`. `d` and `p` give the
-- proof's view of the disk and the report. `result` is what the call returned.
abbrev pub SaysOfRecovery : {D P : Type 0} → Ghosts D → ReportGhosts P → D → P → P → Result Status CommandEnd → List ℕ → Type 0
SaysOfRecovery d p disk report report' result name = SaysOfDisk d p disk report report' result (λ M S. told name (recovery M S))

-- The visible content of a disk: whether a name has a file, and the contents of the open file and its journal. The outcome of `propedit`, `reindex`
-- and `recover` depends on it.
pub record DiskWorld : Type 0 where
  pub is_there : List ℕ → Bool
  pub media : List ℕ
  pub sidecar : List ℕ

-- the content of the disk in the state `disk`, if it is visible to the proof, or None. The contract of a run uses it. Used by `execute` of `mkv_run`
-- and others. `d` gives the proof's view of the disk.
abbrev pub disk_world : {D : Type 0} → Ghosts D → D → Option DiskWorld
disk_world d disk =
    if d.told then Some record { is_there = d.is_there disk; media = (d.pair disk).media.reads; sidecar = (d.pair disk).sidecar.reads }
    else None

-- the outcome of `recover` for the file `name` on a disk with the content `world`. The outcome of a run uses it.
abbrev pub verdict_on : DiskWorld → List ℕ → Verdict
verdict_on world name = recover_verdict (world.is_there name) name world.media world.sidecar
