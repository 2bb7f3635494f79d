use Rattle.remerge_laws.proofs.StandLemmas.{children-decide}
use Rattle.remerge_laws.proofs.records.children_decide.Goals as goal

pub returns : goal.returns
returns c = children-decide
