-- The trees with another ID among the visited ones are kept, and the unvisited ones are unchanged.
use Rattle.ebml_tree.proofs.CompactLemmas.{Compacted}
use Rattle.ebml_tree.proofs.tree.content.remove_from.Given as goal

abbrev pub invariant-loop-k : goal.invariant-loop-k
invariant-loop-k l = Compacted l.id l.from l.kept l.k l.fn.trees.items l.trees.items
