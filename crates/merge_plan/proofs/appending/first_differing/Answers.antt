-- The first track that differs is found.
use Rattle.std.proofs.Common.{sym, ap, ◌∙◌}
use Rattle.track_records.specs.Difference.{first_difference}
use Rattle.merge_inputs.specs.declared.taken.TakenTrack.{TakenTrack}
use Rattle.merge_plan.proofs.AppendLemmas.{track-next, track-none}
use Rattle.merge_plan.proofs.appending.first_differing.Goals as goal

pub returns-in-Some : goal.returns-in-Some
returns-in-Some c =
    let alike = ap (λ (t : TakenTrack). first_difference c.index-lanes-k.result.track t.track) c.index-taken-k.is in
    sym (track-next c.args.lanes.now c.args.taken.now c.loop-k.k c.index-lanes-k.result c.index-taken-k.result c.requires c.loop-k-test.true c.index-lanes-k.is c.index-taken-k.is _ (alike ∙ sym c.differs.ensures ∙ c.in-Some.is)) ∙ c.loop-k.invariant

pub loop-k-preserved : goal.loop-k-preserved
loop-k-preserved c =
    let alike = ap (λ (t : TakenTrack). first_difference c.index-lanes-k.result.track t.track) c.index-taken-k.is in
    sym (track-next c.args.lanes.now c.args.taken.now c.loop-k.k c.index-lanes-k.result c.index-taken-k.result c.requires c.loop-k-test.true c.index-lanes-k.is c.index-taken-k.is _ (alike ∙ sym c.differs.ensures ∙ c.in_default.is)) ∙ c.loop-k.invariant

pub returns : goal.returns
returns c = sym (track-none c.args.lanes.now c.args.taken.now c.loop-k.k c.loop-k-test.false) ∙ c.loop-k.invariant
