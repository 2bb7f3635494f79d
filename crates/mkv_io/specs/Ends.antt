-- The faults that count as causes when a call reads and writes.
use Rattle.std.specs.Prelude.{Bool, true, false, Result}
use Rattle.mkv_io.specs.Faults.{HasCause}
use Rattle.mkv_io.specs.declared.reads.Reads.{Ghosts}
use Rattle.mkv_io.specs.declared.files.Files as writing
use Rattle.mkv_io.specs.declared.remux_end.RemuxEnd.{RemuxEnd}
use Rattle.mkv_io.specs.declared.remux_end.RemuxEnd.TheVariants as remux_end

-- The end of a run is a failed read, and so is counted as a reading fault. `HasRemuxCause` selects the ends that increase the count with it.
abbrev pub is_remux_read_fault : RemuxEnd → Bool
is_remux_read_fault remux_end.ReadFault = true
is_remux_read_fault remux_end.WriteFault = false
is_remux_read_fault remux_end.Memory = false

-- The end of a run is a failed write, and so is counted as a writing fault. `HasRemuxCause` selects the ends that increase the count with it.
abbrev pub is_remux_write_fault : RemuxEnd → Bool
is_remux_write_fault remux_end.ReadFault = false
is_remux_write_fault remux_end.WriteFault = true
is_remux_write_fault remux_end.Memory = false

-- From `old` to `new` a call with this result has increased the count of reading faults if a read failed. It has increased the count of writing
-- faults if a write failed. Otherwise the counts are as before. `r` and `f` have the counts of a state. Contracts of code that writes outputs use it.
pub record HasRemuxCause {S T : Type 0} (r : Ghosts S) (f : writing.Ghosts S) (old new : S) (result : Result T RemuxEnd) : Type 0 where
  pub reading : HasCause is_remux_read_fault (r.reading_faults old) (r.reading_faults new) result
  pub writing : HasCause is_remux_write_fault (f.writing_faults old) (f.writing_faults new) result
