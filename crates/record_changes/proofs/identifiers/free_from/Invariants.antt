-- All smaller numbers are taken.
use Rattle.std.proofs.Common.{◌+◌, ◌-◌, length}
use Rattle.record_changes.specs.Taken.{is_taken, IsNext}
use Rattle.record_changes.proofs.identifiers.free_from.Given as goal

abbrev pub invariant-loop-number : goal.invariant-loop-number
invariant-loop-number l = IsNext (is_taken l.source l.given) l.number

abbrev pub decreases-loop-number : goal.decreases-loop-number
decreases-loop-number l = length l.source.keys + length l.given.keys + 1 - l.number
