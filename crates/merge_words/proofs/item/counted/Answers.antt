use Rattle.std.proofs.Common.{◌∙◌, rules, tests}
use Rattle.std.proofs.lemmas.Iterator.{YieldsList-from_slice}
use Rattle.std.proofs.lemmas.Iterator.Consumers.{YieldsList-from_filter, count_from_yields_List}
use Rattle.std.proofs.lemmas.List.Sums.{length-filter}
use Rattle.merge_words.specs.declared.item.Item.{Item}
use Rattle.merge_words.proofs.ItemsLemmas.{is_of}
use Rattle.merge_words.proofs.item.counted.Goals as goal

pub returns : goal.returns
returns c =
    count_from_yields_List _ c.count.result c.count.ensures.ran
    (YieldsList-from_filter _ (λ (i : Item). is_of c.args.subject i) (YieldsList-from_slice c.args.items.now cc) c.filter.ensures.closure (λ x b q k. search (rules, tests)))
    ∙ length-filter (λ (i : Item). is_of c.args.subject i) c.args.items.now
