-- Laws on the faults of a run that reads and writes. Callers that combine both kinds of calls use them.
use Rattle.std.proofs.Common.{◌≡◌, ℕ, MatchBool, Result, Err, subst}
use Rattle.mkv_io.specs.declared.outside.MakeFault.{MakeFault}
use Rattle.mkv_io.specs.declared.outside.MakeFault.TheVariants as make_fault
use Rattle.mkv_io.specs.declared.outside.ReadEnd.{ReadEnd}
use Rattle.mkv_io.specs.declared.outside.ReadEnd.TheVariants as read_end
use Rattle.mkv_io.specs.Faults.{HasCause, HasIncreased, is_make_failure, is_read_fault}
use Rattle.mkv_io.specs.declared.reads.Reads.{Ghosts}
use Rattle.mkv_io.specs.declared.files.Files as writing
use Rattle.mkv_io.specs.RemuxEnd.{end_of_make, end_of_read}
use Rattle.mkv_io.specs.declared.remux_end.RemuxEnd.{RemuxEnd}
use Rattle.mkv_io.specs.Ends.{HasRemuxCause, is_remux_read_fault, is_remux_write_fault}

-- A refused call that writes, and reads nothing, fulfils `HasRemuxCause`.
pub HasRemuxCause-make : {S T : Type 0} (r : Ghosts S) (f : writing.Ghosts S) (old new : S) (fault : MakeFault) → r.reading_faults new ≡ r.reading_faults old → MatchBool (is_make_failure fault) (HasIncreased (f.writing_faults old) (f.writing_faults new)) (f.writing_faults new ≡ f.writing_faults old) → HasRemuxCause {T = T} r f old new (Err (end_of_make fault))
HasRemuxCause-make r f old new make_fault.Failed reading cause = record { reading = reading; writing = cause }
HasRemuxCause-make r f old new make_fault.Memory reading cause = record { reading = reading; writing = cause }

-- A refused call that reads, and writes nothing, fulfils `HasRemuxCause`.
pub HasRemuxCause-read : {S T : Type 0} (r : Ghosts S) (f : writing.Ghosts S) (old new : S) (end : ReadEnd) → f.writing_faults new ≡ f.writing_faults old → MatchBool (is_read_fault end) (HasIncreased (r.reading_faults old) (r.reading_faults new)) (r.reading_faults new ≡ r.reading_faults old) → HasRemuxCause {T = T} r f old new (Err (end_of_read end))
HasRemuxCause-read r f old new read_end.ReadFault writing cause = record { reading = cause; writing = writing }
HasRemuxCause-read r f old new read_end.Memory writing cause = record { reading = cause; writing = writing }

-- A call that fulfils `HasRemuxCause` does so from the state before earlier calls without faults.
pub HasRemuxCause-then : {S T : Type 0} (r : Ghosts S) (f : writing.Ghosts S) (a b c : S) (result : Result T RemuxEnd) → r.reading_faults b ≡ r.reading_faults a → f.writing_faults b ≡ f.writing_faults a → HasRemuxCause r f b c result → HasRemuxCause r f a c result
HasRemuxCause-then r f a b c result reading writing cause = record {
  reading = subst (λ (count : ℕ). HasCause is_remux_read_fault count (r.reading_faults c) result) reading cause.reading;
  writing = subst (λ (count : ℕ). HasCause is_remux_write_fault count (f.writing_faults c) result) writing cause.writing;
}
