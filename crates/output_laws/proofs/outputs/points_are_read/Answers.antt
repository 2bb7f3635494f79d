use Rattle.output_laws.proofs.CueLemmas.{points-hold}
use Rattle.output_laws.proofs.outputs.points_are_read.Goals as goal

pub returns : goal.returns
returns c = points-hold
