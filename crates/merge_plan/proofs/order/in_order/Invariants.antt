-- The items that the previous pairs name come first, and the others are put in order by the next ones.
use Rattle.std.proofs.Common.{◌≡◌, ◌++◌, drop}
use Rattle.merge_plan.specs.Order.{in_order}
use Rattle.merge_plan.proofs.order.in_order.Given as goal

abbrev pub invariant-loop-pair : goal.invariant-loop-pair
invariant-loop-pair g l = in_order l.order l.keys l.fn.items.items ≡ l.first.items ++ in_order (drop l.pair-index l.order) l.left_keys.items l.left.items
