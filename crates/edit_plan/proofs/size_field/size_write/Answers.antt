-- The old size's place has room for the new one.
use Rattle.std.proofs.Common.{ℕ, ◌<◌, ◌≤◌, min, sym, ◌∙◌, ap, subst}
use Rattle.ebml_numbers.specs.Number.{all_ones}
use Rattle.edit_changes.specs.Plan.{size_width}
use Rattle.edit_plan.proofs.SizeLemmas.{has-size}
use Rattle.edit_plan.proofs.size_field.size_write.Goals as goal

pub put_size-octets-requires-clause-some : goal.put_size-octets-requires-clause-some
put_size-octets-requires-clause-some c =
    let has = has-size c.args.segment.now c.args.end c.in-Known.field-0 c.in-Known.is c.requires.end c.requires.fits in
    let P : ℕ → Type 0 = λ n. 1 ≤ n in
    subst P (sym (c.min-width.ensures ∙ ap (λ n. min n 8) c.size_width.ensures)) has.some

pub put_size-octets-requires-clause-fits : goal.put_size-octets-requires-clause-fits
put_size-octets-requires-clause-fits c =
    let has = has-size c.args.segment.now c.args.end c.in-Known.field-0 c.in-Known.is c.requires.end c.requires.fits in
    let P : ℕ → Type 0 = λ n. c.saturating_sub.result < all_ones n in
    let Q : ℕ → Type 0 = λ v. v < all_ones (min (size_width c.args.segment.now) 8) in
    subst P (sym (c.min-width.ensures ∙ ap (λ n. min n 8) c.size_width.ensures)) (subst Q (sym c.saturating_sub.ensures) has.fits)
