-- The tree that is sought among the remaining ones is the tree that is sought among all.
use Rattle.std.proofs.Common.{◌≡◌, ◌==◌, filter, slice_get, drop}
use Rattle.tree_format.specs.Node.{id_of}
use Rattle.ebml_tree.proofs.tree.content.nth_of.Given as goal

abbrev pub invariant-loop-tree : goal.invariant-loop-tree
invariant-loop-tree l = slice_get (filter (λ n. id_of n == l.id) (drop l.tree-index l.trees)) l.before ≡ slice_get (filter (λ n. id_of n == l.id) l.trees) l.k
