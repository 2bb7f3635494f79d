-- The objects that a run may change, by its command. The rules are this project's.
use Rattle.std.specs.Prelude.{◌≡◌, ⊤, List, ℕ, Result, Ok, Err}
use Rattle.mkv_io.specs.declared.reads.Reads as reads
use Rattle.mkv_disk.specs.declared.disk.Disk as disks
use Rattle.requests.specs.declared.edit.Edit.{Edit}
use Rattle.word_values.specs.declared.usage.Usage.{Usage}
use Rattle.mkv_args.specs.declared.command.Command.{Command}
use Rattle.mkv_args.specs.declared.command.Command.TheVariants.{Explain, Extract, Generate, Help, Identify, Info, Merge, Propedit, Recover, Reindex, Version}
use Rattle.mkv_lines.specs.declared.status.Status.{Status}
use Rattle.mkv_propedit.specs.Recovery.{IsRecoveryOf, LeftByRecovery}
use Rattle.mkv_propedit.specs.Left.{IsEditOf, LeftByEdit, writes_of_edits}
use Rattle.mkv_propedit.specs.Reindex.{writes_of_index}
use Rattle.mkv_lines.specs.Code.{status_of}
use Rattle.mkv_lines.specs.declared.status.CommandEnd.{CommandEnd}

-- The objects that a command works on. Help and refused words work on none. A file in place is recovered, edited or indexed; its name and edits are
-- given.
pub data Reach : Type 0 where
  nothing : Reach
  files : Reach
  recovered : List ℕ → Reach
  edited : List ℕ → List Edit → Reach
  indexed : List ℕ → Reach

-- the objects that a command works on: nothing, files, or a file in place. For the contract of `execute`.
abbrev pub reach_of : Command → Reach
reach_of (Help about) = nothing
reach_of Version = nothing
reach_of (Explain name) = nothing
reach_of (Info file) = files
reach_of (Identify file) = files
reach_of (Recover file) = recovered file
reach_of (Reindex file) = indexed file
reach_of (Generate n prefix) = files
reach_of (Extract file job) = files
reach_of (Propedit file edits) = edited file edits
reach_of (Merge words) = files

-- the objects that a command line works on, as parsed; a refused one works on nothing. For the promises of a run about changes and crashes. The
-- contracts of a run by words use it.
abbrev pub reach_in : Result Command Usage → Reach
reach_in (Ok command) = reach_of command
reach_in (Err usage) = nothing

-- The command recovers, edits or indexes a file in place, by the objects that it works on. Then the disk must be at rest before the run. Used by
-- `run_command_line`, `carry_out` and others.
abbrev pub IsInPlace : Reach → Type 0
IsInPlace nothing = ⊥
IsInPlace files = ⊥
IsInPlace (recovered file) = ⊤
IsInPlace (edited file edits) = ⊤
IsInPlace (indexed file) = ⊤

-- A run with the status `s` changes only what its command works on. `old` and `new` are the states of the files before and after, `disk` and
-- `disk_now` of the disk. An edit in place leaves the files, any other command the disk, and help or refused words both. A file in place is left as
-- its recovery, edit or new index allows. The contract of `run_command_line` states it. `r` and `d` give the proof's view of the disk.
abbrev pub Touches : {F D : Type 0} → reads.Ghosts D → disks.Ghosts D → Reach → F → F → D → D → Status → Type 0
Touches r d nothing old new disk disk_now s = (new ≡ old) × (disk_now ≡ disk)
Touches r d files old new disk disk_now s = disk_now ≡ disk
Touches r d (recovered file) old new disk disk_now s = (new ≡ old) × IsRecoveryOf r d file disk disk_now s
Touches r d (edited file edits) old new disk disk_now s = (new ≡ old) × IsEditOf r d file (writes_of_edits edits) disk disk_now s
Touches r d (indexed file) old new disk disk_now s = (new ≡ old) × IsEditOf r d file writes_of_index disk disk_now s

-- A command that ended with `result` changes only what it works on, `reach`. `old` and `new` are the states of the files before and after, `disk` and
-- `disk_now` of the disk. The contracts of `execute` and `carry_out` state it. `r` and `d` give the proof's view of the disk.
abbrev pub Touched : {F D : Type 0} → reads.Ghosts D → disks.Ghosts D → Reach → F → F → D → D → Result Status CommandEnd → Type 0
Touched r d reach old new disk disk_now result = Touches r d reach old new disk disk_now (status_of result)

-- A file was `M` with the journal `S`. A crash at any moment of a command with the status `e` may leave the contents `m` and `s` of the two. For the
-- promise of a run about a crash. Used by `CrashLeaves`.
abbrev pub LeftOnTheWay : Reach → Status → List ℕ → List ℕ → List ℕ → List ℕ → Type 0
LeftOnTheWay nothing e M S m s = (m ≡ M) × (s ≡ S)
LeftOnTheWay files e M S m s = (m ≡ M) × (s ≡ S)
LeftOnTheWay (recovered file) e M S m s = LeftByRecovery e M S m s
LeftOnTheWay (edited file edits) e M S m s = LeftByEdit e (writes_of_edits edits) M S m s
LeftOnTheWay (indexed file) e M S m s = LeftByEdit e writes_of_index M S m s
