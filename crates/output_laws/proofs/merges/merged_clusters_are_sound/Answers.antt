use Rattle.output_laws.proofs.MergedClusterLemmas.{merged-sound}
use Rattle.output_laws.proofs.merges.merged_clusters_are_sound.Goals as goal

pub returns : goal.returns
returns c = merged-sound
