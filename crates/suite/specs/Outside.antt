-- The state of the files, the disk and the report before or after a run, as plain values that a reader can compare. It is this project's.
use Rattle.std.specs.Prelude.{◌+◌, ℕ, Bool, List, Option, Some, None, if◌then◌else◌}
use Rattle.mkv_io.specs.Names.{Names}
use Rattle.mkv_io.specs.Sources.{live_files}
use Rattle.mkv_io.specs.declared.asked.Asked.{Asked}
use Rattle.mkv_io.specs.declared.files.Files.{Ghosts as FilesGhosts}
use Rattle.mkv_io.specs.declared.reads.Reads.{Ghosts as ReadsGhosts}
use Rattle.mkv_io.specs.declared.report.Report.{Ghosts as ReportGhosts}
use Rattle.mkv_disk.specs.Pair.{Pair}
use Rattle.mkv_disk.specs.declared.disk.Disk.{Ghosts as DiskGhosts}
use Rattle.mkv_lines.specs.Faults.{Counts}
use Rattle.mkv_lines.specs.Said.{ReportLines}
use Rattle.mkv_propedit.specs.Recover.{DiskWorld}
use Rattle.mkv_run.specs.RunSeen.{DiskFaults, RunSeen}

-- A file that is edited in place, with its journal FILE.mkvedit, as the state of the disk before or after a run. Used by `Outside`.
pub record DiskSeen : Type 0 where
  -- the bytes of the two, and which versions of them a crash may leave now
  pub pair : Pair
  -- the name of the file that was opened last, if one was
  pub opened : Option (List ℕ)

-- Counts of the bytes that were read since the program started, from the files and from the disk. The promise on bounds of a run compares them. Used
-- by `Outside`.
pub record BytesRead : Type 0 where
  pub files : ℕ
  pub disk : ℕ

-- The state of the files, the disk and the report, before or after a run. The contracts of `run` and `program` promise what changes between two.
pub record Outside : Type 1 where
  -- the content under each name, if it is visible to the proof: files in memory are, real files aren't
  pub names : Names
  -- true for the number of a file that is open
  pub live : ℕ → Bool
  -- the names that were opened or created since the program started, in order
  pub asked : List Asked
  -- the lines that were printed since the program started, if they are visible to the proof
  pub lines : ReportLines
  -- the failure counts of the files and the report
  pub faults : Counts
  -- the counts of the bytes that were read from the files and from the disk
  pub read : BytesRead
  -- true if the contents of the disk are visible to the proof
  pub tells : Bool
  -- true for a name that has a file on the disk
  pub is_there : List ℕ → Bool
  pub disk : DiskSeen
  -- the failure counts of the disk
  pub disk_faults : DiskFaults
  -- a number for the present moment, which never decreases
  pub moment : ℕ
  -- A crash at some moment since an earlier one could have left these bytes of the file and of its journal.
  pub left_since : ℕ → List ℕ → List ℕ → Type 0

-- the state of the files `files`, the disk `disk` and the report `report`, as plain values, for the contracts of `run` and `program`. The other
-- arguments have the parts of their states. `r`, `f`, `d`, `s` and `p` give the proof's view of the files, the disk and the report.
abbrev pub outside : {F D R : Type 0} → ReadsGhosts F → FilesGhosts F → ReadsGhosts D → DiskGhosts D → ReportGhosts R → F → D → R → Outside
outside r f s d p files disk report = record {
  names = f.names files;
  live = (live_files r files).live;
  asked = f.asked files;
  lines = p.lines report;
  faults = record { reading = r.reading_faults files; writing = f.writing_faults files; report = p.faults report };
  read = record { files = r.octets_read files; disk = s.octets_read disk };
  tells = d.told;
  is_there = d.is_there disk;
  disk = record { pair = d.pair disk; opened = d.opened disk };
  disk_faults = record { reading = s.reading_faults disk; writing = d.writing_faults disk };
  moment = d.moment disk;
  left_since = d.left_since disk;
}

-- the lines, the names and all failure counts of the state `o`, by which the outcome of a run is described. Used by `Runs`.
abbrev pub seen_of : Outside → RunSeen
seen_of o = record {
  seen = record { counts = o.faults; lines = o.lines; names = o.names };
  disk = o.disk_faults;
}

-- the contents of the disk in the state `o`, or None if they aren't visible to the proof. The promises of a run depend on them. Used by `Runs`.
abbrev pub world_of : Outside → Option DiskWorld
world_of o = if o.tells then Some record { is_there = o.is_there; media = o.disk.pair.media.reads; sidecar = o.disk.pair.sidecar.reads } else None

-- the number of bytes that were read of files and disk together, since the program started, up to the state `o`. Used by `Runs`.
abbrev pub bytes_read : Outside → ℕ
bytes_read o = o.read.files + o.read.disk
