use Rattle.merge_laws.proofs.BoundLemmas.{appending-walks}
use Rattle.merge_laws.proofs.only_appending_walks.Goals as goal

pub returns : goal.returns
returns c = appending-walks
