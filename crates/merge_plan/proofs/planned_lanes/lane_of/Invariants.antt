-- The inputs that were passed continue the output track.
use Rattle.std.proofs.Common.{◌+◌, ◌∷◌, take}
use Rattle.merge_plan.specs.TakenTracks.{IsLaneOf, spot, spots_behind}
use Rattle.merge_plan.proofs.planned_lanes.lane_of.Given as goal

abbrev pub invariant-loop-k : goal.invariant-loop-k
invariant-loop-k l = IsLaneOf l.past_damage (spot l.number l.input l.taken ∷ spots_behind l.place (l.number + 1) (take l.k l.behind)) l.lane
