-- One more track is a link.
use Rattle.std.proofs.Common.{List, false, ◌∙◌, subst}
use Rattle.std.specs.List.{AllZip}
use Rattle.std.proofs.lemmas.List.{take_all}
use Rattle.merge_inputs.specs.declared.taken.TakenTrack.{TakenTrack}
use Rattle.merge_plan.specs.TakenTracks.{IsLink}
use Rattle.merge_plan.proofs.LaneLemmas.{link-more}
use Rattle.merge_plan.proofs.planned_lanes.links_of.Goals as goal

pub loop-taken-preserved : goal.loop-taken-preserved
loop-taken-preserved c =
    link-more false c.args.input.now _ _ c.taken-item.result _ _ _ c.loop-taken-test.true c.taken-item.is c.loop-taken.invariant c.in_ok-link_of.ensures c.in_ok-push.ensures.ok

pub returns : goal.returns
returns c =
    subst (λ (ts : List TakenTrack). AllZip (IsLink false c.args.input.now) ts c.loop-taken.links)
    (take_all _ _ c.loop-taken-test.false ∙ c.as_slice-taken-items.ensures) c.loop-taken.invariant
