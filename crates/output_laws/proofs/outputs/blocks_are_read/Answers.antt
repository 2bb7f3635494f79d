use Rattle.output_laws.proofs.BlockLemmas.{block-read}
use Rattle.output_laws.proofs.outputs.blocks_are_read.Goals as goal

pub returns : goal.returns
returns c = block-read
