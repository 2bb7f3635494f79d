-- The items that were passed are divided, and the others follow.
use Rattle.std.proofs.Common.{◌≡◌, ◌++◌, drop}
use Rattle.merge_plan.specs.Order.{names, names_other, picked}
use Rattle.merge_plan.proofs.order.parted.Given as goal

abbrev pub invariant-loop-k : goal.invariant-loop-k
invariant-loop-k g l = record {
  named : picked (names l.pair) l.keys l.fn.items.items ≡ l.named.items ++ picked (names l.pair) (drop l.k-iterator.count l.keys) l.k-iterator.iter.rest.items;
  others : picked (names_other l.pair) l.keys l.fn.items.items ≡ l.others.items ++ picked (names_other l.pair) (drop l.k-iterator.count l.keys) l.k-iterator.iter.rest.items;
}
