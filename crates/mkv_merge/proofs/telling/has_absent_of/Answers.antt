use Rattle.std.proofs.Common.{nat_le, ◌∙◌, rules, tests}
use Rattle.std.proofs.lemmas.Iterator.{YieldsList-from_slice}
use Rattle.std.proofs.lemmas.Iterator.Search.{any_from_yields_List}
use Rattle.mkv_merge.proofs.TellingLemmas.{is_some-kept}
use Rattle.mkv_merge.proofs.telling.has_absent_of.Goals as goal

pub returns : goal.returns
returns c =
    any_from_yields_List (λ n. nat_le c.args.count n) _ _ _ c.any.ensures.ran (YieldsList-from_slice c.args.file.now.named cc) (λ x b q k. search (rules, tests))
    ∙ is_some-kept (λ n. nat_le c.args.count n) c.args.file.now.named
