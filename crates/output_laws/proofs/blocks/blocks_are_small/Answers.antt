use Rattle.output_laws.proofs.SmallLemmas.{all-small}
use Rattle.output_laws.proofs.blocks.blocks_are_small.Goals as goal

pub returns : goal.returns
returns c = all-small
