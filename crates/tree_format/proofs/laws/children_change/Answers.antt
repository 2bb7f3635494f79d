-- The effects of a change on the children with each ID.
use Rattle.tree_format.proofs.PartLemmas.{children-change}
use Rattle.tree_format.proofs.laws.children_change.Goals as goal

pub returns : goal.returns
returns c = children-change
