-- The copies are the trees that were visited.
use Rattle.std.proofs.Common.{◌≡◌, take}
use Rattle.ebml_tree.proofs.tree.Tree.+copy.Given as goal

abbrev pub invariant-loop-tree : goal.invariant-loop-tree
invariant-loop-tree l = l.copies.items ≡ take l.tree-index l.tree-items
