use Rattle.output_laws.proofs.KeptLemmas.{group-kept}
use Rattle.output_laws.proofs.outputs.kept_can_be_written.Goals as goal

pub returns : goal.returns
returns c = group-kept
