-- The sets that were read and the sets of the remaining arrays are the sets of the record.
use Rattle.std.proofs.Common.{◌≡◌, ◌-◌}
use Rattle.elementary.specs.Avc.{behind_sets}
use Rattle.elementary.specs.Hevc.{arrays_at}
use Rattle.elementary.proofs.hevc.read_arrays.Given as goal

abbrev pub invariant-loop : goal.invariant-loop
invariant-loop l =
    behind_sets l.sets (arrays_at (l.count - l.counter) l.rest) ≡ behind_sets l.initial.sets (arrays_at l.count l.octets)
