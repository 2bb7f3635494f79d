-- The tracks are the borrowed ones.
use Rattle.std.proofs.Common.{◌≡◌, Bool, List, [], ◌∷◌, ◌++◌, map, refl, sym, ap, ap₂, ◌∙◌}
use Rattle.std.proofs.lemmas.List.{map_push, take_all}
use denote.Ref.{Bor}
use Rattle.merge_inputs.specs.declared.taken.TakenTrack.{TakenTrack}
use Rattle.merge_plan.specs.Lent.{lent}
use Rattle.merge_plan.specs.Plan.{is_video}
use Rattle.merge_plan.proofs.ListLemmas.{take-next}
use Rattle.merge_plan.proofs.splitting.videos_of.Goals as goal

lent-videos : (refs : List (Bor TakenTrack)) → map (λ (r : Bor TakenTrack). is_video r.now) refs ≡ map is_video (lent refs)
lent-videos [] = refl
lent-videos (r ∷ refs) = ap (λ l. is_video r.now ∷ l) (lent-videos refs)

pub loop-each-preserved : goal.loop-each-preserved
loop-each-preserved c =
    c.in_ok-push.ensures.ok
    ∙ ap₂ (λ (before : List Bool) (one : Bool). before ++ one ∷ []) c.loop-each.invariant c.is_video.ensures
    ∙ sym (map_push (λ (r : Bor TakenTrack). is_video r.now) _ c.each-item.result)
    ∙ ap (map (λ (r : Bor TakenTrack). is_video r.now)) (sym (take-next c.args.taken.now _ c.each-item.result c.loop-each-test.true c.each-item.is))

pub returns : goal.returns
returns c = c.loop-each.invariant ∙ ap (map (λ (r : Bor TakenTrack). is_video r.now)) (take_all _ c.args.taken.now c.loop-each-test.false) ∙ lent-videos c.args.taken.now
