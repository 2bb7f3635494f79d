-- The output tracks are put in order, and then driven.
use Rattle.std.proofs.Common.{◌≡◌, ℕ, List, map, sym, ap, subst, ◌∙◌}
use Rattle.std.specs.List.{AllZip, range_with_len}
use Rattle.std.proofs.lemmas.Result.{IfOk-weaker}
use Rattle.remux_plan.specs.declared.plan.PlannedLane.{PlannedLane}
use Rattle.splitter.specs.Split.{is_driver}
use Rattle.merge_inputs.specs.Input.{read_in}
use Rattle.merge_plan.specs.Order.{in_order}
use Rattle.merge_plan.specs.Records.{keys_from}
use Rattle.merge_plan.specs.TakenTracks.{AreDriven, IsLaneOf, driven_from, spots_from, spots_ordered}
use Rattle.merge_plan.proofs.LaneLemmas.{driven-drives, driven-length, lanes-driven}
use Rattle.merge_plan.proofs.OrderLemmas.{in_order-zip}
use Rattle.merge_plan.proofs.planned_lanes.output_lanes.Goals as goal

-- The output tracks are the sorted ones.
pub returns-clause-lanes : goal.returns-clause-lanes
returns-clause-lanes c =
    let keys : List (ℕ × ℕ) = keys_from 0 (map read_in c.args.inputs.now) in
    let lanes : List PlannedLane = c.in_ok-lanes.lanes in
    let same : c.in_ok-sorted.sorted.items ≡ in_order c.args.order.now keys lanes =
    c.in_ok-sorted.ensures ∙ ap (λ ks. in_order c.args.order.now ks c.into_vec.result.items) (c.as_slice.ensures.value ∙ c.in_ok-keys.ensures) ∙ ap (in_order c.args.order.now keys) c.into_vec.ensures in
    let sorted : AllZip (IsLaneOf c.args.past_damage) (spots_ordered c.args.order.now c.args.inputs.now) c.in_ok-sorted.sorted.items =
    subst (AllZip (IsLaneOf c.args.past_damage) (spots_ordered c.args.order.now c.args.inputs.now)) (sym same)
    (in_order-zip (IsLaneOf c.args.past_damage) c.args.order.now keys (spots_from 0 c.args.inputs.now) lanes c.in_ok-lanes.ensures) in
    IfOk-weaker c.driven.result _ _ (λ new is. subst (AllZip (IsLaneOf c.args.past_damage) (spots_ordered c.args.order.now c.args.inputs.now)) (sym is) (lanes-driven c.args.past_damage c.args.videos.now 0 (spots_ordered c.args.order.now c.args.inputs.now) c.in_ok-sorted.sorted.items sorted)) c.driven.ensures

pub returns-clause-drives : goal.returns-clause-drives
returns-clause-drives c =
    let videos = c.args.videos.now in
    let lanes : List PlannedLane = c.in_ok-sorted.sorted.items in
    let driven : AreDriven videos (driven_from videos 0 lanes) = driven-drives videos 0 lanes ∙ ap (λ (n : ℕ). map (is_driver videos) (range_with_len 0 n)) (sym (driven-length videos 0 lanes)) in
    IfOk-weaker c.driven.result _ _ (λ new is. subst (AreDriven videos) (sym is) driven) c.driven.ensures
