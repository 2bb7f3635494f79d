use Rattle.output_laws.proofs.AgainLemmas.{lanes-again}
use Rattle.output_laws.proofs.merges.lanes_are_read_again.Goals as goal

pub returns : goal.returns
returns c = lanes-again
