-- The ID wasn't found yet.
use Rattle.std.proofs.Common.{◌≡◌, drop}
use Rattle.merge_inputs.specs.Taken.{value_for}
use Rattle.merge_inputs.proofs.taken.value_for.Given as goal

abbrev pub invariant-loop-k : goal.invariant-loop-k
invariant-loop-k g l = value_for l.id l.list ≡ value_for l.id (drop l.k-index l.list)
