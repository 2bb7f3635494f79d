-- The maximum of the visited trees and the remaining ones is the maximum of all.
use Rattle.std.proofs.Common.{◌≡◌, max, drop}
use Rattle.tree_format.specs.Node.{nodes_of, depth_all}
use Rattle.ebml_tree.proofs.tree.content.depth_around.Given as goal

abbrev pub invariant-loop-tree : goal.invariant-loop-tree
invariant-loop-tree l = max l.most (depth_all (nodes_of (drop l.tree-index l.trees))) ≡ depth_all (nodes_of l.trees)
