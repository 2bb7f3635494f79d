-- The promises of a run, over the states before and after it. It is this project's.
use Rattle.std.specs.Prelude.{◌≡◌, ◌≢◌, ◌⊎◌, ◌≤◌, ⊤, ℕ, IsTrue, false, List, Some}
use Rattle.mkv_io.specs.Asked.{AsksNone}
use Rattle.mkv_io.specs.Told.{IfVisible}
use Rattle.mkv_disk.specs.Pair.{IsSynced, Pair}
use Rattle.requests.specs.declared.edit.Edit.{Edit}
use Rattle.mkv_args.specs.Words.{command}
use Rattle.mkv_lines.specs.Code.{code_of}
use Rattle.mkv_lines.specs.declared.status.Status.{Status}
use Rattle.mkv_lines.specs.declared.status.Status.TheVariants as status
use Rattle.mkv_propedit.specs.Recovery.{LeavesPair}
use Rattle.mkv_propedit.specs.Left.{LeavesEdited, writes_of_edits}
use Rattle.mkv_propedit.specs.Reindex.{writes_of_index}
use Rattle.merge_laws.specs.Merge.{MergesWell}
use Rattle.remerge_laws.specs.MergedAgain.{MergesAgain}
use Rattle.mkv_run.specs.Asked.{IsBesidesAfter}
use Rattle.mkv_run.specs.Ends.{Ends}
use Rattle.suite.specs.Kept.{HasNewIndex, KeepsRest}
use Rattle.suite.specs.Generated.{GeneratesWell}
use Rattle.suite.specs.Outside.{Outside, bytes_read, seen_of, world_of}
use Rattle.mkv_run.specs.Run.{ReadsWithinIn, verdict_in}
use Rattle.mkv_run.specs.RunSeen.{HasStatusCause}
use Rattle.mkv_run.specs.Touched.{LeftOnTheWay, Reach, edited, files, indexed, nothing, reach_in, recovered}

-- ---- the rest stays

-- From the state `before` to `after`, the files stay as they were. So do their contents, the open ones, the names that were opened or created, and
-- the counts of failures and bytes read. A command that works on the disk, or on nothing, promises it.
pub record FilesStay (before after : Outside) : Type 0 where
  pub names : after.names ≡ before.names
  pub live : after.live ≡ before.live
  pub asked : after.asked ≡ before.asked
  pub reading : after.faults.reading ≡ before.faults.reading
  pub writing : after.faults.writing ≡ before.faults.writing
  pub read : after.read.files ≡ before.read.files

-- From the state `before` to `after`, the disk stays as it was. So do the file and its journal, all other names, and the counts of failures and bytes
-- read. A crash can have left nothing new. A command that works on files, or on nothing, promises it.
pub record DiskStays (before after : Outside) : Type 0 where
  pub disk : after.disk ≡ before.disk
  pub is_there : after.is_there ≡ before.is_there
  pub faults : after.disk_faults ≡ before.disk_faults
  pub read : after.read.disk ≡ before.read.disk
  pub moment : after.moment ≡ before.moment
  pub crash : (t : ℕ) (m s : List ℕ) → after.left_since t m s → before.left_since t m s

-- ---- a file in place

-- `P` holds of the bytes of the file and its journal in `before`, and of the two in `after`. It is promised if the disk is visible to the proof.
-- Promises of edits in place use it.
abbrev pub OfPair : Outside → Outside → (List ℕ → List ℕ → Pair → Type 0) → Type 0
OfPair before after P = IsTrue before.tells → P before.disk.pair.media.reads before.disk.pair.sidecar.reads after.disk.pair

-- A run that ended with the status `s` has opened the file `name` by the state `after`. If not, the file doesn't exist or a call failed, and the disk
-- is as in `before`. `propedit`, `reindex` and `recover` promise it.
abbrev pub OpensOrLeaves : List ℕ → Outside → Outside → Status → Type 0
OpensOrLeaves name before after s =
    (after.disk.opened ≡ Some name)
    ⊎ ((after.disk ≡ before.disk) × (s ≢ status.Done) × (s ≡ status.Refused → IsTrue before.tells → before.is_there name ≡ false))

-- A `propedit` with `edits` that succeeded keeps the rest of the file, from the state `before` to `after`. The last argument is the status. `Leaves`
-- promises it.
abbrev pub KeepsRestOf : List Edit → Outside → Outside → Status → Type 0
KeepsRestOf edits before after status.Done = OfPair before after (λ M S p. KeepsRest edits M p.media.reads)
KeepsRestOf edits before after s = ⊤

-- A `reindex` that succeeded keeps the rest of the file, from the state `before` to `after`, and its index is complete. The last argument is the
-- status. `Leaves` promises it.
abbrev pub IndexesAll : Outside → Outside → Status → Type 0
IndexesAll before after status.Done = OfPair before after (λ M S p. HasNewIndex M p.media.reads)
IndexesAll before after s = ⊤

-- A run with the status `s` changes only the objects that its command works on, from the state `before` to `after`. A run that recovers, edits or
-- indexes a file leaves all other files as they are. Every other run leaves the disk as it is. The contract of `run` promises it.
abbrev pub Leaves : Reach → Outside → Outside → Status → Type 0
Leaves nothing before after s = FilesStay before after × DiskStays before after
Leaves files before after s = DiskStays before after
Leaves (recovered file) before after s =
    FilesStay before after × OpensOrLeaves file before after s × OfPair before after (LeavesPair s)
Leaves (edited file edits) before after s =
    FilesStay before after × OpensOrLeaves file before after s × OfPair before after (LeavesEdited s (writes_of_edits edits)) × KeepsRestOf edits before after s
Leaves (indexed file) before after s =
    FilesStay before after × OpensOrLeaves file before after s × OfPair before after (LeavesEdited s writes_of_index) × IndexesAll before after s

-- A crash at any moment from `before` to `after` leaves bytes of the file and its journal that satisfy `P`. A crash since an earlier moment leaves
-- such bytes, or bytes that were possible in `before`; the latter are still possible. The contract of `run` promises it.
pub record CrashLeavesOnly (before after : Outside) (P : List ℕ → List ℕ → Type 0) : Type 0 where
  pub later : before.moment ≤ after.moment
  pub each : (m s : List ℕ) → after.left_since before.moment m s → P m s
  pub earlier : (t : ℕ) (m s : List ℕ) → t ≤ before.moment → after.left_since t m s → before.left_since t m s ⊎ P m s
  pub keeps : (t : ℕ) (m s : List ℕ) → t ≤ before.moment → before.left_since t m s → after.left_since t m s

-- ---- a run

-- The promises of a run with the command line `words` that found the state `before`, left `after`, and ended with the status `s`. They are the
-- contract of `run`, on which users rely.
pub record Runs (words : List (List ℕ)) (before after : Outside) (s : Status) : Type 0 where
  -- Status, messages and outputs are the ones that the definitions give for the command line, and nothing under another name has changed. If a call
  -- of the system fails or memory runs out on the way, only the first of the messages were printed. This is promised if the contents of the files, or
  -- for an edit in place of the disk, are visible to the proof.
  pub does_what_is_defined : IfVisible (verdict_in before.names (world_of before) words) (Ends (seen_of before) (seen_of after) s)
  -- The run ends with the status of a failure only if a failure was counted, and always if one was.
  pub reports_failures : HasStatusCause (reach_in (command words)) (seen_of before) (seen_of after) s
  -- The same files are open as before.
  pub closes_its_files : (file : ℕ) → after.live file ≡ before.live file
  -- The run opens or creates no file that its command line doesn't ask for.
  pub opens_no_other_file : AsksNone (IsBesidesAfter (command words)) before.asked after.asked
  -- The run reads at most the number of bytes that the definitions allow for its command line.
  pub reads_within_bounds : ReadsWithinIn before.names (world_of before) words (bytes_read before) (bytes_read after)
  -- Files or a disk that the command doesn't work on stay as they are, and an edit in place keeps the rest of its file.
  pub changes_nothing_else : Leaves (reach_in (command words)) before after s
  -- After a successful merge the outputs hold the merge that the command line asks for.
  pub output_holds_the_merge : MergesWell before.names words after.names s
  -- Merging such an output again, by itself and without options, gives the same bytes, if the first merge used only default options.
  pub merge_is_repeatable : MergesAgain before.names words after.names s
  -- `generate` ends with the status Done and one line, and its files hold exactly their blocks. It isn't promised if memory runs out or a call of the
  -- system fails.
  pub generate_succeeds : GeneratesWell before.names words s
  -- A crash at any moment leaves the file and its journal as they were, or as an edit or a recovery can leave them. Either way `recover` makes the
  -- old file or the edited one. If the run is refused or out of memory, a crash leaves them as they were. This is promised if the disk is visible to
  -- the proof and had nothing left to sync.
  pub survives_crashes : IsTrue before.tells → IsSynced before.disk.pair
      → CrashLeavesOnly before after (LeftOnTheWay (reach_in (command words)) s before.disk.pair.media.reads before.disk.pair.sidecar.reads)

-- The exit status `code` of the program is the number of a status. A run of `words` from the state `before` to `after` ends with this status. The
-- contract of `program` promises it.
pub record Exits (words : List (List ℕ)) (before after : Outside) (code : ℕ) : Type 0 where
  pub status : Status
  pub number : code ≡ code_of status
  pub runs : Runs words before after status

-- From the state `before` to `after`, nothing was done and nothing was printed. The contract of `program` promises it if the words couldn't be read.
pub record IsIdle (before after : Outside) : Type 0 where
  pub files : FilesStay before after
  pub disk : DiskStays before after
  pub lines : after.lines ≡ before.lines
  pub faults : after.faults ≡ before.faults
