-- A valid tree is read back without limits.
use Rattle.tree_format.proofs.OrderLemmas.{sound-without_limits}
use Rattle.tree_format.proofs.laws.sound_trees_are_read_again.Goals as goal

pub returns : goal.returns
returns c = sound-without_limits
