-- The borrowed tracks are put in order like the tracks.
use Rattle.std.proofs.Common.{◌≡◌, List, ap, ap₂, ◌∙◌, map}
use Rattle.std.proofs.lemmas.Result.{IfOk-weaker}
use denote.Ref.{Bor}
use Rattle.merge_inputs.specs.Input.{InputRead, read_in}
use Rattle.merge_inputs.specs.declared.taken.TakenTrack.{TakenTrack}
use Rattle.merge_plan.specs.Lent.{lent}
use Rattle.merge_plan.specs.Order.{in_order}
use Rattle.merge_plan.specs.Records.{tracks_ordered}
use Rattle.merge_plan.proofs.OrderLemmas.{in_order-map}
use Rattle.merge_plan.proofs.entries.tracks_ordered.Goals as goal

pub returns : goal.returns
returns c =
    let order = c.args.order.now in
    let reads : List InputRead = map read_in c.args.inputs.now in
    let refs : List (Bor TakenTrack) = c.in_ok-taken.taken.items in
    let same : lent (in_order order c.as_slice.result.now refs) ≡ tracks_ordered order reads =
    in_order-map (λ (r : Bor TakenTrack). r.now) order c.as_slice.result.now refs ∙ ap₂ (in_order order) (c.as_slice.ensures.value ∙ c.in_ok-keys.ensures) c.in_ok-taken.ensures in
    IfOk-weaker c.in_order.result _ _ (λ taken is. ap lent is ∙ same) c.in_order.ensures
