-- Reading step by step gives the tree that is defined over all Elements at once.
use Rattle.tree_format.proofs.OrderLemmas.{tree_of-in_order}
use Rattle.tree_format.proofs.laws.trees_are_in_order.Goals as goal

pub returns : goal.returns
returns c = tree_of-in_order
