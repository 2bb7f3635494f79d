-- The failure counts of a run's files and report, and their increase.
use Rattle.std.specs.Prelude.{◌≡◌, ℕ, ◌⊎◌, Result, Ok, Err}
use Rattle.mkv_io.specs.Faults.{HasIncreased}
use Rattle.mkv_lines.specs.declared.status.CommandEnd.{CommandEnd}
use Rattle.mkv_lines.specs.declared.status.CommandEnd.TheVariants as stop

-- Failure counts of a run: failed calls to open or read, failed calls to create or write, and lines that couldn't be printed. Contracts compare them
-- before and after. Used by `files_counts`, `FilesRose` and others.
pub record Counts : Type 0 where
  pub reading : ℕ
  pub writing : ℕ
  pub report : ℕ

-- From the counts `old` to `new`, a failed read or a failed write of files was counted. `HasStopCause` uses it.
abbrev pub FilesRose : Counts → Counts → Type 0
FilesRose old new = HasIncreased old.reading new.reading ⊎ HasIncreased old.writing new.writing

-- From the counts `old` to `new`, a line that couldn't be printed was counted. `HasStopCause` uses it.
abbrev pub ReportRose : Counts → Counts → Type 0
ReportRose old new = HasIncreased old.report new.report

-- A command on files from the counts `old` to `new` fails for the right reason. A failure is returned only if its own count increased, and no other
-- count did. `HasEnded` uses it.
abbrev pub HasStopCause : {T : Type 0} → Counts → Counts → Result T CommandEnd → Type 0
HasStopCause old new (Ok _) = new ≡ old
HasStopCause old new (Err stop.Memory) = new ≡ old
HasStopCause old new (Err stop.Files) = FilesRose old new × (new.report ≡ old.report)
HasStopCause old new (Err stop.Disk) = ⊥
HasStopCause old new (Err stop.Report) = ReportRose old new × (new ≡ record old { report = new.report })

-- A call that only reads files and prints lines fails for the right reason. It is a failure only if the count of failed reads (`reading` to `now`) or
-- of failed prints (`report_was` to `report`) increased. The other count is unchanged. Used by the contract of `info`.
abbrev pub HasReadStop : {T : Type 0} → ℕ → ℕ → ℕ → ℕ → Result T CommandEnd → Type 0
HasReadStop reading now report_was report (Ok _) = (now ≡ reading) × (report ≡ report_was)
HasReadStop reading now report_was report (Err stop.Memory) = (now ≡ reading) × (report ≡ report_was)
HasReadStop reading now report_was report (Err stop.Files) = HasIncreased reading now × (report ≡ report_was)
HasReadStop reading now report_was report (Err stop.Disk) = ⊥
HasReadStop reading now report_was report (Err stop.Report) = (now ≡ reading) × HasIncreased report_was report
