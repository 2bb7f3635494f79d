-- A master has less room than its parent, and an Element is read from its parent's bytes.
use Rattle.std.proofs.Common.{◌+◌, ◌*◌, length}
use Rattle.tree_format.proofs.ReadingLemmas.{ReadOn}
use Rattle.ebml_tree.proofs.tree.reading.+reading.Given as goal

abbrev pub decreases-tree_in : goal.decreases-tree_in
decreases-tree_in l = 2 * l.room

abbrev pub decreases-trees_in : goal.decreases-trees_in
decreases-trees_in l = 2 * l.room + 1

abbrev pub invariant-trees_in-loop-rest : goal.invariant-trees_in-loop-rest
invariant-trees_in-loop-rest l = ReadOn l.room l.fn.left l.left l.parent l.place l.at l.body l.rest l.trees.items

abbrev pub decreases-trees_in-loop-rest : goal.decreases-trees_in-loop-rest
decreases-trees_in-loop-rest l = length l.rest
