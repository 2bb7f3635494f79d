use Rattle.remerge_laws.proofs.BlockLemmas.{blocks-read}
use Rattle.remerge_laws.proofs.outputs.output_blocks_are_read.Goals as goal

pub returns : goal.returns
returns c = blocks-read
