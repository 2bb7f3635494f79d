-- One more input continues the output track.
use Rattle.std.proofs.Common.{List, ◌+◌, ◌∷◌, sym, subst, take}
use Rattle.merge_plan.specs.TakenTracks.{IsLaneOf, Spot, spot, spots_at, spots_behind}
use Rattle.merge_plan.proofs.LaneLemmas.{behind-more, lane-more}
use Rattle.merge_plan.proofs.planned_lanes.lane_of.Goals as goal

pub loop-k-preserved : goal.loop-k-preserved
loop-k-preserved c =
    let number = c.args.number in
    let place = c.args.place in
    let k = c.loop-k.k in
    let behind = c.args.behind.now in
    let other = c.index-behind-k.result in
    let first : Spot = spot number c.args.input.now c.args.taken.now in
    subst (λ (spots : List Spot). IsLaneOf c.args.past_damage (first ∷ spots) c.go_on.new.lane) (sym (behind-more place (number + 1) behind k other c.loop-k-test.true c.index-behind-k.is))
    (lane-more c.args.past_damage first (spots_behind place (number + 1) (take k behind)) (spots_at place (number + 1 + k, other)) c.loop-k.lane c.go_on.new.lane c.loop-k.invariant c.in_ok-go_on.ensures)
