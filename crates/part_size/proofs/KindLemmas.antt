-- A cut at times or at a load stays one.
use Rattle.std.proofs.Common.{◌≡◌, ℕ, Bool, refl, sym, ◌∙◌, ap, subst}
use Rattle.std.specs.Prelude.{is_some}
use Rattle.splitter.specs.declared.spec.SplitSpec.TheVariants.{Whole}
use Rattle.splitter.specs.Steps.{CutsSeen, stepped}
use Rattle.part_size.specs.Kinds.{HasLimit, times_beside}
use Rattle.part_size.specs.declared.kinds.Kind.{Kind}
use Rattle.part_size.specs.declared.kinds.Kind.TheVariants.{Times, Sizes}

-- The state `k` has times or a load limit, and not both.
abbrev pub IsCut : Kind → Type 0
IsCut k = (times_beside k ≡ Whole) × HasLimit k

-- A step keeps this.
pub times-stay : (old new : Kind) (cuts after : CutsSeen) (may : Bool) (tick len : ℕ) → old ≡ Times cuts → new ≡ Times after → after ≡ stepped cuts may tick len → IsCut old → IsCut new
times-stay old new cuts after may tick len was now steps is =
    let had : IsCut (Times cuts) = subst IsCut was is in
    subst IsCut (sym now) (refl, ap (λ (c : CutsSeen). c.size) steps ∙ had.1)

pub sizes-stay : (old new : Kind) (cuts after : CutsSeen) (may : Bool) (tick len : ℕ) → old ≡ Sizes cuts → new ≡ Sizes after → after ≡ stepped cuts may tick len → IsCut old → IsCut new
sizes-stay old new cuts after may tick len was now steps is =
    let had : IsCut (Sizes cuts) = subst IsCut was is in
    subst IsCut (sym now) (ap (λ (c : CutsSeen). c.spec) steps ∙ had.0, ap (λ (c : CutsSeen). is_some c.size) steps ∙ had.1)
