use Rattle.remerge_laws.proofs.TreeLemmas.{small-read}
use Rattle.remerge_laws.proofs.trees.small_trees_are_read.Goals as goal

pub returns : goal.returns
returns c = small-read
