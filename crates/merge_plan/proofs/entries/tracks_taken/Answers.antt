-- The tracks of each input are appended.
use Rattle.std.proofs.Common.{◌∷◌, ◌++◌, [], sym, ap, ◌∙◌, append_assoc, take}
use Rattle.std.proofs.lemmas.List.{take_all}
use Rattle.merge_plan.specs.Lent.{lent}
use Rattle.merge_plan.proofs.ListLemmas.{take-next, lent-push}
use Rattle.merge_plan.proofs.RecordLemmas.{begun_in, taken-next, taken-all}
use Rattle.merge_plan.proofs.entries.tracks_taken.Goals as goal

pub loop-track-preserved : goal.loop-track-preserved
loop-track-preserved c =
    let before = lent c.loop-input.taken.items in
    ap lent c.in_ok-push.ensures.items ∙ lent-push c.loop-track.taken.items _
    ∙ ap (λ l. l ++ c.track-item.result ∷ []) c.loop-track.invariant
    ∙ append_assoc before (take c.loop-track.track-index c.tracks_begun-track-items.result.now) (c.track-item.result ∷ [])
    ∙ ap (λ l. before ++ l) (sym (take-next _ _ _ c.loop-track-test.true c.track-item.is))

pub loop-input-preserved : goal.loop-input-preserved
loop-input-preserved c =
    let before = lent c.loop-input.taken.items in
    c.loop-track.invariant
    ∙ ap (λ l. before ++ l) (take_all _ _ c.loop-track-test.false ∙ c.tracks_begun-track-items.ensures)
    ∙ ap (λ l. l ++ begun_in c.input-item.result) c.loop-input.invariant
    ∙ sym (taken-next c.args.inputs.now _ _ c.loop-input-test.true c.input-item.is)

pub returns : goal.returns
returns c = c.loop-input.invariant ∙ taken-all c.args.inputs.now _ c.loop-input-test.false
