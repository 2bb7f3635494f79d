use Rattle.output_laws.proofs.MergedLemmas.{lanes-kept}
use Rattle.output_laws.proofs.merges.lanes_are_kept.Goals as goal

pub returns : goal.returns
returns c = lanes-kept
