use Rattle.std.proofs.Common.{◌≡◌, ◌∙◌, IfOk, rules, tests}
use Rattle.std.specs.Prelude.{filter_map}
use Rattle.std.proofs.lemmas.Iterator.{YieldsList-from_slice, items_from_collect}
use Rattle.std.proofs.lemmas.Iterator.Consumers.{YieldsList-from_filter_map}
use Rattle.splitter.specs.Words.{start_at}
use Rattle.splitter.proofs.words.starts_at.Goals as goal

pub returns : goal.returns
returns c =
    let all : IfOk c.collect.result (λ v. v.items ≡ filter_map (start_at c.args.starts.now) c.args.numbers.now) =
    items_from_collect _ c.collect.ensures.ran
    (YieldsList-from_filter_map _ (start_at c.args.starts.now) (YieldsList-from_slice c.args.numbers.now cc) c.filter_map-at.ensures.closure (λ x r q k. search (rules, tests))) in
    let it = rw c.in_ok-collect.was at all in
    c.from_vec.ensures ∙ it
