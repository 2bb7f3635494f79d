-- The lines that a command on a file and its journal prints, and the bytes that it reads. It is this project's.
use Rattle.std.specs.Prelude.{◌≤◌, ◌+◌, ℕ, List, length, Result}
use Rattle.mkv_io.specs.declared.reads.Reads as reads
use Rattle.mkv_io.specs.declared.report.Report.{Ghosts as ReportGhosts}
use Rattle.mkv_disk.specs.Calls.{OfReads}
use Rattle.mkv_disk.specs.declared.disk.Disk.{Ghosts}
use Rattle.mkv_lines.specs.Verdict.{SaysVerdict, Verdict}
use Rattle.mkv_lines.specs.declared.status.Status.{Status}
use Rattle.mkv_lines.specs.declared.status.CommandEnd.{CommandEnd}

-- The command prints the lines of `verdict`, the outcome for the contents of the file and its journal, and has its status. A command that failed
-- prints a first part of them. `disk` is the state of the disk before, `report` and `report'` are the states of the report before and after. Used for
-- `propedit`, `reindex` and `recover`. `d` and `p` give the proof's view of the disk and the report. `result` is what the call returned.
abbrev pub SaysOfDisk : {D P : Type 0} → Ghosts D → ReportGhosts P → D → P → P → Result Status CommandEnd → (List ℕ → List ℕ → Verdict) → Type 0
SaysOfDisk d p disk report report' result verdict = OfReads d disk (λ media sidecar. SaysVerdict (p.lines report) (p.lines report') result (verdict media sidecar))

-- From the state `disk` to `disk'` the command reads at most `most` bytes, which depends on the length of the file. Used for `propedit` and
-- `reindex`. `r` and `d` give the proof's view of the disk.
abbrev pub ReadsOfDisk : {D : Type 0} → reads.Ghosts D → Ghosts D → D → D → (ℕ → ℕ) → Type 0
ReadsOfDisk r d disk disk' most = OfReads d disk (λ media sidecar. r.octets_read disk' ≤ r.octets_read disk + most (length media))
