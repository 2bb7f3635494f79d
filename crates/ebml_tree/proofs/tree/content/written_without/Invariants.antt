-- The sum and the bytes of the remaining trees are the bytes of all.
use Rattle.std.proofs.Common.{◌≡◌, ◌+◌, length, flat_map, drop}
use Rattle.tree_format.specs.NormalForm.{octets}
use Rattle.tree_format.specs.Changes.{without}
use Rattle.ebml_tree.proofs.tree.content.written_without.Given as goal

abbrev pub invariant-loop-tree : goal.invariant-loop-tree
invariant-loop-tree l = l.sum + length (flat_map octets (without l.id (drop l.tree-index l.trees))) ≡ length (flat_map octets (without l.id l.trees))
