-- An empty body has no children.
use Rattle.ebml_tree.proofs.BuildLemmas.{empty-built}
use Rattle.ebml_tree.proofs.masters.empty.Goals as goal

pub returns-in-Ok : goal.returns-in-Ok
returns-in-Ok c = λ deep. empty-built c.args.id c.args.offset deep c.in-Ok.tree c.in-Ok.ensures.exact
