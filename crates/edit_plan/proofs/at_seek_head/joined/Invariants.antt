-- The writes that were passed follow the first ones.
use Rattle.std.proofs.Common.{◌≡◌, ◌++◌}
use Rattle.edit_plan.proofs.at_seek_head.joined.Given as goal

abbrev pub invariant-loop-write : goal.invariant-loop-write
invariant-loop-write l = l.first.items ≡ l.fn.first.items ++ l.yielded
