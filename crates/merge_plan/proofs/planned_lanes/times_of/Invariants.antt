-- The timestamps that were passed are other tracks'.
use Rattle.std.proofs.Common.{◌≡◌, drop}
use Rattle.merge_inputs.specs.Input.{listings_in}
use Rattle.merge_inputs.specs.Taken.{value_for}
use Rattle.merge_plan.proofs.planned_lanes.times_of.Given as goal

abbrev pub invariant-loop-each : goal.invariant-loop-each
invariant-loop-each l = value_for l.taken.id (listings_in (drop l.each-index l.each-items)) ≡ value_for l.taken.id (listings_in l.each-items)
