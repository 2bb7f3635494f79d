-- An identifier of 0 or a repeated one gets the smallest free number.
use Rattle.std.proofs.Common.{sym, ◌∙◌}
use Rattle.record_changes.proofs.TakenLemmas.{smallest-next, number-old, number-zero}
use Rattle.record_changes.proofs.identifiers.number_for.Goals as goal
use Rattle.record_changes.proofs.identifiers.number_for.Goals.{else-uid-ne0-via-then-uid-ne0+else-not-contains, else-uid-ne0-via-else-uid-ne0}

pub returns-clause-exact : goal.returns-clause-exact
returns-clause-exact c =
    let free = smallest-next c.args.source.now c.args.given.now _ c.free_from.ensures.next c.free_from.ensures.free in
    elim c.else-uid-ne0.branch [
      | else-uid-ne0-via-then-uid-ne0+else-not-contains w ↦ sym (number-old c.args.source.now.keys c.args.given.now.keys c.args.uid (sym w.contains.ensures ∙ w.if-not-contains.false) ∙ free)
      | else-uid-ne0-via-else-uid-ne0 w ↦ sym (number-zero c.args.source.now.keys c.args.given.now.keys c.args.uid w.if-uid-ne0.false ∙ free)
    ]
