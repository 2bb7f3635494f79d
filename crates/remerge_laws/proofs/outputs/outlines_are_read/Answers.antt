use Rattle.remerge_laws.proofs.DocumentLemmas.{outlines-read}
use Rattle.remerge_laws.proofs.outputs.outlines_are_read.Goals as goal

pub returns : goal.returns
returns c = outlines-read
