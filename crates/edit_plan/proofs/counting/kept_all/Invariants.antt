-- The count is the count of the trees passed and of the rest.
use Rattle.std.proofs.Common.{◌≡◌, ◌+◌, drop}
use Rattle.tree_format.specs.Node.{nodes_of}
use Rattle.tree_format.specs.Standing.{kept_all}
use Rattle.edit_plan.proofs.counting.kept_all.Given as goal

abbrev pub invariant-loop-tree : goal.invariant-loop-tree
invariant-loop-tree l = l.count + kept_all (nodes_of (drop l.tree-index l.trees)) ≡ kept_all (nodes_of l.trees)
