-- A tree isn't nested too deep, so its children have room.
use Rattle.ebml_tree.proofs.ContentLemmas.{view_low}
use Rattle.ebml_tree.proofs.tree.Tree.children.Goals as goal

pub returns-clause-room : goal.returns-clause-room
returns-clause-room c = rw c.kids.ensures (view_low c.self.inside.content c.self.inside.depth c.self.invariant.deep c.self.invariant.not_too_deep)
