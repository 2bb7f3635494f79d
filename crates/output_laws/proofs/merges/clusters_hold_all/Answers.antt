use Rattle.output_laws.proofs.MergedClusterLemmas.{clusters-hold}
use Rattle.output_laws.proofs.merges.clusters_hold_all.Goals as goal

pub returns : goal.returns
returns c = clusters-hold
