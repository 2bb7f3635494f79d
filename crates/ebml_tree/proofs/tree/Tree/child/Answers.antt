-- Children have room.
use Rattle.tree_format.proofs.StandingLemmas.{room-find}
use Rattle.ebml_tree.proofs.tree.Tree.child.Goals as goal

pub returns-clause-room : goal.returns-clause-room
returns-clause-room c = room-find _ c.children.result.now c.first_of.result c.first_of.ensures c.children.ensures.room
