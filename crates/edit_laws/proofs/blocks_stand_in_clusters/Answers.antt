use Rattle.edit_laws.proofs.StandLemmas.{blocks-stand}
use Rattle.edit_laws.proofs.blocks_stand_in_clusters.Goals as goal

pub returns : goal.returns
returns c = blocks-stand
