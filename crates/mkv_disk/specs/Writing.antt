-- The effects of calls that write to the file and the journal of a disk, and the causes of their failures.
use Rattle.std.specs.Prelude.{◌≡◌, ◌⊎◌, ◌≤◌, ◌+◌, ℕ, Bool, MatchBool, Result, Ok, Err}
use Rattle.mkv_io.specs.Faults.{HasIncreased}
use Rattle.mkv_io.specs.Sources.{live_files}
use Rattle.mkv_io.specs.declared.reads.Reads as reads
use Rattle.mkv_disk.specs.declared.disk.Disk.{Ghosts}

-- From the state `old` to `new`, the same files are open, under the same name. Nothing is read, and no failure count falls. `r` and `d` have the
-- parts of a state. Contracts of the steps of an edit that write promise it.
pub record OnlyWrites {S : Type 0} (r : reads.Ghosts S) (d : Ghosts S) (old new : S) : Type 0 where
  pub live : (file : ℕ) → (live_files r new).live file ≡ (live_files r old).live file
  pub opened : d.opened new ≡ d.opened old
  pub reading : r.reading_faults new ≡ r.reading_faults old
  pub octets : r.octets_read new ≡ r.octets_read old
  pub writing : d.writing_faults old ≤ d.writing_faults new

-- ---- calls that read and write

-- From the state `old` to `new`, the same files are open, under the same name, and at most `n` bytes are read. `r` and `d` have the parts of a state.
-- Contracts of the steps of `recover` promise it.
pub record KeepsOpen {S : Type 0} (r : reads.Ghosts S) (d : Ghosts S) (old new : S) (n : ℕ) : Type 0 where
  pub live : (file : ℕ) → (live_files r new).live file ≡ (live_files r old).live file
  pub opened : d.opened new ≡ d.opened old
  pub least : r.octets_read old ≤ r.octets_read new
  pub most : r.octets_read new ≤ r.octets_read old + n

-- From the state `old` to `new`, no failed read or write was counted. `r` and `d` have the counts of a state. `HasDiskCause` requires it after a
-- success.
pub record HasNoFault {S : Type 0} (r : reads.Ghosts S) (d : Ghosts S) (old new : S) : Type 0 where
  pub reading : r.reading_faults new ≡ r.reading_faults old
  pub writing : d.writing_faults new ≡ d.writing_faults old

-- From the state `old` to `new`, exactly one of the two failure counts grew: failed reads or failed writes. `r` and `d` have the counts of a state.
-- `HasDiskCause` requires it after a failure of the disk.
abbrev pub HasOneFault : {S : Type 0} → reads.Ghosts S → Ghosts S → S → S → Type 0
HasOneFault r d old new =
    (HasIncreased (r.reading_faults old) (r.reading_faults new) × (d.writing_faults new ≡ d.writing_faults old))
    ⊎ ((r.reading_faults new ≡ r.reading_faults old) × HasIncreased (d.writing_faults old) (d.writing_faults new))

-- A call from the state `old` to `new` that ends with a failure of the disk has counted one failed read or write. Any other call has counted none.
-- The test `is_fault` selects the errors that are failures of the disk; `r` and `d` have the counts of a state. Contracts of the steps of `recover`
-- promise it.
abbrev pub HasDiskCause : {S T E : Type 0} → reads.Ghosts S → Ghosts S → (E → Bool) → S → S → Result T E → Type 0
HasDiskCause r d is_fault old new (Ok _) = HasNoFault r d old new
HasDiskCause r d is_fault old new (Err e) = MatchBool (is_fault e) (HasOneFault r d old new) (HasNoFault r d old new)
