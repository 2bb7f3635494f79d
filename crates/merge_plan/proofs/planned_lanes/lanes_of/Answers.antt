-- The output track of each track is appended.
use Rattle.std.proofs.Common.{List, [], ◌∷◌, ◌+◌, ◌∙◌, ap, drop}
use Rattle.std.specs.List.{take_while}
use Rattle.std.proofs.lemmas.List.{drop_all, take_rest}
use Rattle.merge_plan.specs.TakenTracks.{Spot, goes_on, spot, spots_behind, spots_from}
use Rattle.merge_plan.proofs.LaneLemmas.{behind-taken, input-next, item-taken, lane-next, lanes-done, left-same, left_at, place-next}
use Rattle.merge_plan.proofs.planned_lanes.lanes_of.Goals as goal

pub loop-place-init : goal.loop-place-init
loop-place-init c =
    let inputs = c.args.inputs.now in
    let number = c.loop-number.number in
    let i = c.index-inputs-number.result in
    let taken = c.tracks_begun-taken-items.result.now in
    let behind = c.appended-behind.result.now in
    left-same c.args.past_damage (spots_from number (drop number inputs)) (left_at inputs number i taken behind 0) (spots_from 0 inputs) c.loop-number.lanes
    (input-next inputs number i taken behind c.loop-number-test.true c.index-inputs-number.is c.tracks_begun-taken-items.ensures (c.appended-behind.ensures ∙ ap (take_while goes_on) (take_rest inputs (number + 1)))) c.loop-number.invariant

pub lane_of-requires-clause-taken : goal.lane_of-requires-clause-taken
lane_of-requires-clause-taken c =
    item-taken c.args.inputs.now c.loop-number.number c.index-inputs-number.result c.tracks_begun-taken-items.result.now c.loop-place.place c.taken-item.result
    c.requires c.loop-number-test.true c.index-inputs-number.is c.tracks_begun-taken-items.ensures c.loop-place-test.true c.taken-item.is

pub lane_of-requires-clause-behind : goal.lane_of-requires-clause-behind
lane_of-requires-clause-behind c = behind-taken c.args.inputs.now c.appended-behind.result.now (c.loop-number.number + 1) c.requires (c.appended-behind.ensures ∙ ap (take_while goes_on) (take_rest c.args.inputs.now (c.loop-number.number + 1)))

pub loop-place-preserved : goal.loop-place-preserved
loop-place-preserved c =
    let inputs = c.args.inputs.now in
    let number = c.loop-number.number in
    let i = c.index-inputs-number.result in
    let taken = c.tracks_begun-taken-items.result.now in
    let behind = c.appended-behind.result.now in
    let place = c.loop-place.place in
    let t = c.taken-item.result in
    let spots : List Spot = spot number i t ∷ spots_behind place (number + 1) behind in
    lane-next c.args.past_damage spots (left_at inputs number i taken behind (place + 1)) (spots_from 0 inputs) c.loop-place.lanes c.push.new.self c.in_ok-lane.lane
    (left-same c.args.past_damage (left_at inputs number i taken behind place) (spots ∷ left_at inputs number i taken behind (place + 1)) (spots_from 0 inputs) c.loop-place.lanes
    (place-next inputs number i taken behind place t c.loop-place-test.true c.taken-item.is) c.loop-place.invariant)
    c.in_ok-lane.ensures c.in_ok-push.ensures.ok

pub returns : goal.returns
returns c =
    let inputs = c.args.inputs.now in
    let number = c.loop-number.number in
    lanes-done c.args.past_damage (spots_from 0 inputs) c.loop-number.lanes
    (left-same c.args.past_damage (spots_from number (drop number inputs)) [] (spots_from 0 inputs) c.loop-number.lanes (ap (spots_from number) (drop_all number inputs c.loop-number-test.false)) c.loop-number.invariant)
