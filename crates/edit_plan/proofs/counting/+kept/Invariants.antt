-- The count is the count of the children passed and of the rest.
use Rattle.std.proofs.Common.{◌≡◌, ◌+◌, drop}
use Rattle.tree_format.specs.Node.{nodes_of, count}
use Rattle.tree_format.specs.Standing.{kept, kept_all}
use Rattle.edit_plan.proofs.counting.+kept.Given as goal

abbrev pub invariant-loop-child : goal.invariant-loop-child
invariant-loop-child l = l.count + kept_all (nodes_of (drop l.child-index l.child-items)) ≡ kept l.tree

abbrev pub decreases-kept : goal.decreases-kept
decreases-kept l = count l.tree.now
