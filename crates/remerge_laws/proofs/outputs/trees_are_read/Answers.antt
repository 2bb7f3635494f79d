use Rattle.remerge_laws.proofs.RecordLemmas.{trees-read}
use Rattle.remerge_laws.proofs.outputs.trees_are_read.Goals as goal

pub returns : goal.returns
returns c = trees-read
