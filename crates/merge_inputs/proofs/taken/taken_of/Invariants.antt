-- The previous tracks are copied or skipped, and the others follow.
use Rattle.std.proofs.Common.{◌≡◌, ◌++◌}
use Rattle.merge_inputs.specs.Taken.{taken_from}
use Rattle.merge_inputs.proofs.taken.taken_of.Given as goal

abbrev pub invariant-loop-k : goal.invariant-loop-k
invariant-loop-k l = taken_from l.words 0 l.fn.tracks ≡ l.taken ++ taken_from l.words l.k-iterator.count l.k-iterator.iter.rest.items
