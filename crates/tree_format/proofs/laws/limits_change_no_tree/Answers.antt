-- A tree that is read with limits is the tree without limits.
use Rattle.tree_format.proofs.OrderLemmas.{tree_of-without_limits}
use Rattle.tree_format.proofs.laws.limits_change_no_tree.Goals as goal

pub returns : goal.returns
returns c = tree_of-without_limits
