use Rattle.output_laws.proofs.AgainLemmas.{clusters-again}
use Rattle.output_laws.proofs.merges.clusters_are_cut_again.Goals as goal

pub returns : goal.returns
returns c = clusters-again
