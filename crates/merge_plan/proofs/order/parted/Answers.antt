-- No item is left.
use Rattle.std.proofs.Common.{◌≡◌, [], ◌++◌, sym, ap, ◌∙◌, append-nil, drop, arith}
use Rattle.std.proofs.lemmas.List.{nil_from_length}
use Rattle.merge_plan.specs.Order.{names, names_other, picked}
use Rattle.merge_plan.proofs.OrderLemmas.{picked_nil}
use Rattle.merge_plan.proofs.order.parted.Goals as goal

pub returns-clause-named : goal.returns-clause-named
returns-clause-named g c =
    let rest = c.loop-k.k-iterator.iter.rest in
    let none : rest.items ≡ [] = nil_from_length rest.items (omega (arith, rest.ok, c.in-None.ensures.steps.0)) in
    let test = names c.args.pair in
    let keys = drop c.loop-k.k-iterator.count c.args.keys.now in
    sym (c.loop-k.invariant.named ∙ ap (λ l. c.loop-k.named.items ++ picked test keys l) none ∙ ap (λ l. c.loop-k.named.items ++ l) (picked_nil test keys) ∙ append-nil c.loop-k.named.items)

pub returns-clause-others : goal.returns-clause-others
returns-clause-others g c =
    let rest = c.loop-k.k-iterator.iter.rest in
    let none : rest.items ≡ [] = nil_from_length rest.items (omega (arith, rest.ok, c.in-None.ensures.steps.0)) in
    let test = names_other c.args.pair in
    let keys = drop c.loop-k.k-iterator.count c.args.keys.now in
    sym (c.loop-k.invariant.others ∙ ap (λ l. c.loop-k.others.items ++ picked test keys l) none ∙ ap (λ l. c.loop-k.others.items ++ l) (picked_nil test keys) ∙ append-nil c.loop-k.others.items)
