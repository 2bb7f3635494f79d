use Rattle.std.proofs.Common.{sym, ◌∙◌, ap, rules, tests}
use Rattle.std.proofs.lemmas.Iterator.{YieldsList-from_slice}
use Rattle.std.proofs.lemmas.Iterator.Search.{any_from_yields_List}
use Rattle.splitter.specs.Split.{holds, keeps}
use Rattle.splitter.proofs.spec.SplitSpec.keeps.Goals as goal

pub returns-in-Parts : goal.returns-in-Parts
returns-in-Parts c =
    let here = any_from_yields_List (holds c.args.start) _ _ c.any.result c.any.ensures.ran (YieldsList-from_slice c.in-Parts.spans cc) (λ x b q k. search (rules, tests)) in
    here ∙ ap (λ spec. keeps spec c.args.start) (sym c.in-Parts.is)
