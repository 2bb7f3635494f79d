-- Children have room.
use Rattle.tree_format.proofs.StandingLemmas.{room-get}
use Rattle.ebml_tree.proofs.tree.Tree.at.Goals as goal

pub returns-clause-room : goal.returns-clause-room
returns-clause-room c = room-get c.children.result.now c.args.k c.tree_at.result c.tree_at.ensures c.children.ensures.room
