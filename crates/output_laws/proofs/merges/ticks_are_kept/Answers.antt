use Rattle.output_laws.proofs.TickLemmas.{placed-again}
use Rattle.output_laws.proofs.merges.ticks_are_kept.Goals as goal

pub returns : goal.returns
returns c = placed-again
