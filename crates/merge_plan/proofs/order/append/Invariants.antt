-- The items that were passed are appended.
use Rattle.std.proofs.Common.{◌≡◌, ◌++◌}
use Rattle.merge_plan.proofs.order.append.Given as goal

abbrev pub invariant-loop-item : goal.invariant-loop-item
invariant-loop-item g l = l.items.items ++ l.item-iterator.rest.items ≡ l.initial.items.items ++ l.fn.more.items
