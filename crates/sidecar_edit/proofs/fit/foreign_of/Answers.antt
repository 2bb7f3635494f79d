use Rattle.std.proofs.Common.{◌∙◌, ◌||◌, nat_lt, sym, Some}
use Rattle.std.proofs.lemmas.Bool.{cond-true}
use Rattle.sidecar_edit.specs.declared.outcome.Mark.TheVariants.{Length}
use Rattle.sidecar_edit.specs.declared.outcome.RecoverEnd.TheVariants.{Foreign}
use Rattle.sidecar_edit.specs.Fields.{new_len_in, old_len_in}
use Rattle.sidecar_edit.proofs.fit.foreign_of.Goals as goal

pub returns-then-has_other_length : goal.returns-then-has_other_length
returns-then-has_other_length c =
    let s = c.args.head.now in let kept = c.number_at.ensures in
    sym (cond-true (nat_lt c.args.size (old_len_in s) || nat_lt (new_len_in s) c.args.size) _ _ (sym c.has_other_length.ensures ∙ c.if-has_other_length.true)
    ∙ sym (λ i. Some (Foreign Length (kept i) c.args.size)))
