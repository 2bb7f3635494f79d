-- The tracks that were passed are links.
use Rattle.std.proofs.Common.{false, take}
use Rattle.std.specs.List.{AllZip}
use Rattle.merge_plan.specs.TakenTracks.{IsLink}
use Rattle.merge_plan.proofs.planned_lanes.links_of.Given as goal

abbrev pub invariant-loop-taken : goal.invariant-loop-taken
invariant-loop-taken l = AllZip (IsLink false l.input) (take l.taken-index l.taken-items) l.links
