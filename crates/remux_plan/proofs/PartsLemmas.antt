-- Without a split, the merged list is one part with all blocks unchanged.
use Rattle.std.proofs.Common.{◌∙◌, ℕ, [], ◌∷◌, Option, None, ap, ap₂}
use Rattle.splitter.specs.declared.spec.SplitSpec.{SplitSpec}
use Rattle.splitter.proofs.SectionLemmas.{whole-part}
use Rattle.remux_plan.specs.Plan.{blocks_of}
use Rattle.remux_plan.specs.Parts.{WholeIsOneOutput, outputs_from, spec_of, split_of}

pub whole-output : WholeIsOneOutput
whole-output f p whole none =
    ap (outputs_from f (spec_of p) 1) (whole-part (split_of p) (blocks_of f p) whole none)
    ∙ ap₂ (λ (spec : SplitSpec) (size : Option ℕ). outputs_from f (spec_of (record p { split = spec; size = size })) 1 (record { start = 0; end = None; blocks = blocks_of f p } ∷ [])) whole none
