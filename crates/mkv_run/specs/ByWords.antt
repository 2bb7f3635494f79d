-- The promises of a run in the terms of the code's files, disk and report, by its command line. A state with a prime is the state after the run.
use Rattle.std.specs.Prelude.{◌+◌, List, Option}
use Rattle.std.specs.declared.alloc.Global.{Global}
use Rattle.std.specs.declared.string.String.{String}
use Rattle.mkv_io.specs.Told.{IfVisible}
use Rattle.mkv_io.specs.declared.files.Files.{Ghosts as FilesGhosts}
use Rattle.mkv_io.specs.declared.reads.Reads.{Ghosts as ReadsGhosts}
use Rattle.mkv_io.specs.declared.report.Report.{Ghosts as ReportGhosts}
use Rattle.mkv_disk.specs.Calls.{AnyMoment, AtRest}
use Rattle.mkv_disk.specs.declared.disk.Disk.{Ghosts as DiskGhosts}
use Rattle.mkv_args.specs.Words.{command}
use Rattle.mkv_args.specs.declared.command.Command.{Command}
use Rattle.mkv_lines.specs.Verdict.{Verdict}
use Rattle.mkv_lines.specs.declared.status.Status.{Status}
use Rattle.mkv_propedit.specs.Recover.{disk_world}
use Rattle.word_values.specs.Place.{texts}
use Rattle.mkv_run.specs.Ends.{Ends}
use Rattle.mkv_run.specs.Run.{ReadsWithin, ReadsWithinIn, verdict_in}
use Rattle.mkv_run.specs.RunSeen.{HasStatusCause, run_seen}
use Rattle.mkv_run.specs.Touched.{LeftOnTheWay, Reach, reach_in}

-- the objects that a run of the command line `words` may change. Used by the contract of `run_command_line` and of the program.
abbrev pub reach_for : List (String Global) → Reach
reach_for words = reach_in (command (texts words))

-- the outcome of the command line `words` over `files` and `disk`. It is visible only if the files, or for an edit in place the disk, are visible to
-- the proof. For the contract of `carry_out` and for `EndsFor`. `f` and `d` give the proof's view of the files and the disk.
abbrev pub verdict_for : {F D : Type 0} → FilesGhosts F → DiskGhosts D → F → D → List (String Global) → Option Verdict
verdict_for f d files disk words = verdict_in (f.names files) (disk_world d disk) (texts words)

-- The run of `words` ends with `status`, and leaves the outcome of `words` or a part of it. The states before the run are `files`, `disk` and
-- `report`, and the ones with a prime are after it. It is promised if the outcome is visible to the proof. The contract of `run_command_line` states
-- it. `r`, `f`, `d`, `s` and `p` give the proof's view of the files, the disk and the report.
abbrev pub EndsFor : {F D R : Type 0} → ReadsGhosts F → FilesGhosts F → ReadsGhosts D → DiskGhosts D → ReportGhosts R → F → F → D → D → R → R → List (String Global) → Status → Type 0
EndsFor r f s d p files files' disk disk' report report' words status =
    IfVisible (verdict_for f d files disk words) (Ends (run_seen r f s d p files disk report) (run_seen r f s d p files' disk' report') status)

-- The run of `words` ends with `status`, if it is one of a failure, only if a failure was counted. The states before the run are `files`, `disk` and
-- `report`, and the ones with a prime are after it. The contract of `run_command_line` states it. `r`, `f`, `d`, `s` and `p` give the proof's view of
-- the files, the disk and the report.
abbrev pub HasCauseFor : {F D R : Type 0} → ReadsGhosts F → FilesGhosts F → ReadsGhosts D → DiskGhosts D → ReportGhosts R → F → F → D → D → R → R → List (String Global) → Status → Type 0
HasCauseFor r f s d p files files' disk disk' report report' words status =
    HasStatusCause (reach_for words) (run_seen r f s d p files disk report) (run_seen r f s d p files' disk' report') status

-- From `files` and `disk` to `files'` and `disk'`, the number of bytes read of both together is within the limit of the command line `words`. The
-- contract of `run_command_line` states it. `r`, `f`, `d` and `s` give the proof's view of the files and the disk.
abbrev pub ReadsFor : {F D : Type 0} → ReadsGhosts F → FilesGhosts F → ReadsGhosts D → DiskGhosts D → F → F → D → D → List (String Global) → Type 0
ReadsFor r f s d files files' disk disk' words =
    ReadsWithinIn (f.names files) (disk_world d disk) (texts words) (r.octets_read files + s.octets_read disk) (r.octets_read files' + s.octets_read disk')

-- From `files` and `disk` to `files'` and `disk'`, the number of bytes read of both together is within the limit of `command`. The contract of
-- `execute` states it. `r`, `f`, `d` and `s` give the proof's view of the files and the disk.
abbrev pub ReadsToObey : {F D : Type 0} → ReadsGhosts F → FilesGhosts F → ReadsGhosts D → DiskGhosts D → F → F → D → D → Command → Type 0
ReadsToObey r f s d files files' disk disk' command =
    ReadsWithin (f.names files) (disk_world d disk) command (r.octets_read files + s.octets_read disk) (r.octets_read files' + s.octets_read disk')

-- If nothing on the disk `old` was left to sync, a crash at any moment up to `new` leaves only contents that `reach` allows. `e` is the status of the
-- run. The contract of `run_command_line` states it. `d` gives the proof's view of the disk.
abbrev pub CrashLeaves : {D : Type 0} → DiskGhosts D → D → D → Reach → Status → Type 0
CrashLeaves d old new reach e = AtRest d old → AnyMoment d old new (LeftOnTheWay reach e)
