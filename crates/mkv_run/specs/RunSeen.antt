-- The state of the files, the report and the disk that the end of a run is defined on.
use Rattle.std.specs.Prelude.{◌≡◌, ◌⊎◌, ⊤, ℕ, Result, Ok, Err, IfOk}
use Rattle.mkv_io.specs.Faults.{HasIncreased}
use Rattle.mkv_io.specs.Sources.{live_files}
use Rattle.mkv_io.specs.declared.reads.Reads.{Ghosts as ReadsGhosts}
use Rattle.mkv_io.specs.declared.files.Files.{Ghosts as FilesGhosts}
use Rattle.mkv_io.specs.declared.report.Report.{Ghosts as ReportGhosts}
use Rattle.mkv_disk.specs.declared.disk.Disk.{Ghosts as DiskGhosts}
use Rattle.mkv_lines.specs.Faults.{FilesRose, ReportRose}
use Rattle.mkv_lines.specs.Ordinary.{IsOrdinary}
use Rattle.mkv_lines.specs.Said.{ReportLines}
use Rattle.mkv_lines.specs.Seen.{Seen, seen}
use Rattle.mkv_lines.specs.declared.status.Status.{Status}
use Rattle.mkv_lines.specs.declared.status.Status.TheVariants as status
use Rattle.mkv_lines.specs.declared.status.CommandEnd.{CommandEnd}
use Rattle.mkv_lines.specs.declared.status.CommandEnd.TheVariants as stop
use Rattle.mkv_run.specs.Touched.{Reach, edited, indexed, recovered}

-- Numbers of failed calls on the disk since the program started: calls to open or read, and calls to write. A part of `RunSeen`, in the promise of a
-- whole run.
pub record DiskFaults : Type 0 where
  pub reading : ℕ
  pub writing : ℕ

-- From the counts `old` to `new`, a failure of the disk was counted. A cause of the end `Outside`. Used by `EndsOutside`, `HasRunStop` and others.
abbrev pub DiskRose : DiskFaults → DiskFaults → Type 0
DiskRose old new = HasIncreased old.reading new.reading ⊎ HasIncreased old.writing new.writing

-- State of the files and the report, and the failure counts of the disk, at one moment. The end of a run is defined by two of them. Used by
-- `EndsOutside`, `Ends` and others.
pub record RunSeen : Type 0 where
  pub seen : Seen
  pub disk : DiskFaults

-- the state of `files`, `disk` and the report `said`, as plain values. The ghost arguments show them to the proof. For the contracts of a run.
-- `files_reads`, `files_own`, `disk_reads` and `disk_own` are those of the files and the disk.
abbrev pub run_seen : {F D R : Type 0} → ReadsGhosts F → FilesGhosts F → ReadsGhosts D → DiskGhosts D → ReportGhosts R → F → D → R → RunSeen
run_seen files_reads files_own disk_reads disk_own report files disk said = record {
  seen = seen files_reads files_own.writing_faults files_own.names report files said;
  disk = record { reading = disk_reads.reading_faults disk; writing = disk_own.writing_faults disk };
}

-- From the state `old` to `new`, no failure was counted. The condition of an ordinary end.
pub record IsFaultless (old new : RunSeen) : Type 0 where
  pub counts : new.seen.counts ≡ old.seen.counts
  pub disk : new.disk ≡ old.disk

-- From the report `old` to `new`, no line was printed, if the command recovers, edits or indexes a file in place. A case of `HasRunStop`, in the
-- promise of a whole run.
abbrev pub IsSilent : Reach → ReportLines → ReportLines → Type 0
IsSilent (recovered file) old new = new ≡ old
IsSilent (edited file edits) old new = new ≡ old
IsSilent (indexed file) old new = new ≡ old
IsSilent _ old new = ⊤

-- The command that works on `reach` and took the state `old` to `new` fails for the right reason. It fails with an object only if that object counted
-- a failure and no other did. After a failure of the disk no line was printed; nor if memory ran out in an edit in place. A part of `HasObeyed`, in
-- the promise of a whole run.
abbrev pub HasRunStop : {T : Type 0} → Reach → RunSeen → RunSeen → Result T CommandEnd → Type 0
HasRunStop reach old new (Ok _) = IsFaultless old new
HasRunStop reach old new (Err stop.Memory) = IsFaultless old new × IsSilent reach old.seen.lines new.seen.lines
HasRunStop reach old new (Err stop.Files) =
    FilesRose old.seen.counts new.seen.counts × (new.seen.counts.report ≡ old.seen.counts.report) × (new.disk ≡ old.disk)
HasRunStop reach old new (Err stop.Disk) = DiskRose old.disk new.disk × (new.seen.counts ≡ old.seen.counts) × (new.seen.lines ≡ old.seen.lines)
HasRunStop reach old new (Err stop.Report) =
    ReportRose old.seen.counts new.seen.counts × (new.seen.counts ≡ record old.seen.counts { report = new.seen.counts.report }) × (new.disk ≡ old.disk)

-- A command that works on `reach` ended with an ordinary status, or failed for the right reason. The same files are open as before. The states before
-- are `files`, `disk` and `report`, and the ones with a prime are after it. The contracts of `execute` and `carry_out` state it.
pub record HasObeyed {F D R : Type 0} (r : ReadsGhosts F) (f : FilesGhosts F) (s : ReadsGhosts D) (d : DiskGhosts D) (p : ReportGhosts R) (files files' : F) (disk disk' : D) (report report' : R) (reach : Reach) (result : Result Status CommandEnd) : Type 0 where
  pub ordinary : IfOk result IsOrdinary
  pub live : (file : ℕ) → (live_files r files').live file ≡ (live_files r files).live file
  pub cause : HasRunStop reach (run_seen r f s d p files disk report) (run_seen r f s d p files' disk' report') result

-- A run that works on `reach` ends with `Outside` exactly if a failure was counted from the state `old` to `new`. If it ends with `NoMemory`, an edit
-- in place has printed nothing. Used by the contract of `run_command_line` and by the promise of the program.
abbrev pub HasStatusCause : Reach → RunSeen → RunSeen → Status → Type 0
HasStatusCause reach old new status.NoMemory = IsFaultless old new × IsSilent reach old.seen.lines new.seen.lines
HasStatusCause reach old new status.Outside =
    FilesRose old.seen.counts new.seen.counts ⊎ (DiskRose old.disk new.disk ⊎ ReportRose old.seen.counts new.seen.counts)
HasStatusCause reach old new _ = IsFaultless old new
