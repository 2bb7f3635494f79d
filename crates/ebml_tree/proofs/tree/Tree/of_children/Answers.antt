-- Trees that leave room, and aren't too long together, make a tree that keeps its limits.
use Rattle.ebml_tree.proofs.ContentLemmas.{limits-master}
use Rattle.ebml_tree.proofs.tree.Tree.of_children.Goals as goal

pub returns-clause-limits : goal.returns-clause-limits
returns-clause-limits c = limits-master c.args.id c.args.offset c.in-Some.written c.as_slice.result.now c.args.trees.items c.as_slice.ensures.value c.in-Some.ensures c.requires.room
