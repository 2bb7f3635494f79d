use Rattle.output_laws.proofs.CutLemmas.{clusters-cut}
use Rattle.output_laws.proofs.merges.clusters_are_cut.Goals as goal

pub returns : goal.returns
returns c = clusters-cut
