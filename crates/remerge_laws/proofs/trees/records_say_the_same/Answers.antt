use Rattle.remerge_laws.proofs.PlacedLemmas.{say-same}
use Rattle.remerge_laws.proofs.trees.records_say_the_same.Goals as goal

pub returns : goal.returns
returns c = say-same
