-- Elements are listed one at a time.
use Rattle.tree_format.proofs.OrderLemmas.{elements_in-end, elements_in-more}
use Rattle.tree_format.proofs.laws.elements_are_listed.Goals as goal

pub returns : goal.returns
returns c = record { end = elements_in-end; more = elements_in-more }
