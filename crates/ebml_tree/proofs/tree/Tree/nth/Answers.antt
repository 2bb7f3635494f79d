-- Children have room.
use Rattle.tree_format.proofs.StandingLemmas.{room-nth}
use Rattle.ebml_tree.proofs.tree.Tree.nth.Goals as goal

pub returns-clause-room : goal.returns-clause-room
returns-clause-room c = room-nth _ c.children.result.now c.args.k c.nth_of.result c.nth_of.ensures c.children.ensures.room
