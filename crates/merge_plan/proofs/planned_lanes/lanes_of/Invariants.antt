-- The output tracks that were made are the first of all.
use Rattle.std.proofs.Common.{drop}
use Rattle.merge_plan.specs.TakenTracks.{spots_from}
use Rattle.merge_plan.proofs.LaneLemmas.{GoOn, left_at}
use Rattle.merge_plan.proofs.planned_lanes.lanes_of.Given as goal

abbrev pub invariant-loop-number : goal.invariant-loop-number
invariant-loop-number l = GoOn l.past_damage (spots_from l.number (drop l.number l.inputs)) l.lanes (spots_from 0 l.inputs)

abbrev pub invariant-loop-place : goal.invariant-loop-place
invariant-loop-place l = GoOn l.past_damage (left_at l.inputs l.number l.input l.taken-items l.behind l.place) l.lanes (spots_from 0 l.inputs)
