-- The previous tracks are alike.
use Rattle.std.proofs.Common.{◌≡◌, drop}
use Rattle.merge_plan.specs.Appending.{first_differing}
use Rattle.merge_plan.proofs.appending.first_differing.Given as goal

abbrev pub invariant-loop-k : goal.invariant-loop-k
invariant-loop-k l = first_differing (drop l.k l.lanes) (drop l.k l.taken) ≡ first_differing l.lanes l.taken
