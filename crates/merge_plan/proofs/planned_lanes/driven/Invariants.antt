-- The output tracks that were passed, and then the others.
use Rattle.std.proofs.Common.{◌≡◌, ◌++◌}
use Rattle.merge_plan.specs.TakenTracks.{driven_from}
use Rattle.merge_plan.proofs.planned_lanes.driven.Given as goal

abbrev pub invariant-loop-k : goal.invariant-loop-k
invariant-loop-k l = driven_from l.videos 0 l.fn.lanes.items ≡ l.driven ++ driven_from l.videos l.k-iterator.count l.k-iterator.iter.rest.items
