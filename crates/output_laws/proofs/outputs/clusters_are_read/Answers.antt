use Rattle.output_laws.proofs.ClusterLemmas.{cluster-read}
use Rattle.output_laws.proofs.outputs.clusters_are_read.Goals as goal

pub returns : goal.returns
returns c = cluster-read
