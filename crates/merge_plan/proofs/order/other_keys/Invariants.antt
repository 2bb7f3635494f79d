-- The other keys among the ones that were passed.
use Rattle.std.proofs.Common.{◌≡◌, ◌++◌, drop}
use Rattle.merge_plan.specs.Order.{names_other, picked}
use Rattle.merge_plan.proofs.order.other_keys.Given as goal

abbrev pub invariant-loop-key : goal.invariant-loop-key
invariant-loop-key l = picked (names_other l.pair) l.keys l.keys ≡ l.others.items ++ picked (names_other l.pair) (drop l.key-index l.keys) (drop l.key-index l.keys)
