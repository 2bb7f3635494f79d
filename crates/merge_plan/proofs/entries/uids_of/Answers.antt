-- The numbers are the tracks' identifiers.
use Rattle.std.proofs.Common.{◌≡◌, List, [], ◌∷◌, ℕ, map, refl, ap, subst, ◌∙◌, rules, IfOk}
use denote.Ref.{Bor}
use Rattle.record_changes.specs.Identifiers.{renumbered}
use Rattle.merge_inputs.specs.declared.taken.TakenTrack.{TakenTrack}
use Rattle.merge_plan.specs.Lent.{lent}
use Rattle.merge_plan.proofs.entries.uids_of.Goals as goal

lent-uids : (refs : List (Bor TakenTrack)) → map (λ (r : Bor TakenTrack). r.now.track.uid) refs ≡ map (λ (t : TakenTrack). t.track.uid) (lent refs)
lent-uids [] = refl
lent-uids (r ∷ refs) = ap (λ l. r.now.track.uid ∷ l) (lent-uids refs)

pub returns : goal.returns
returns c =
    let uids : c.in_ok-uids.uids.items ≡ map (λ (r : Bor TakenTrack). r.now.track.uid) c.args.taken.now = search rules in
    let P : List ℕ → Type 0 = λ l. IfOk c.renumber.result (λ numbers. numbers ≡ renumbered l) in
    subst P (c.as_slice.ensures.value ∙ uids ∙ lent-uids c.args.taken.now) c.renumber.ensures
