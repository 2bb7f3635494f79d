use Rattle.remerge_laws.proofs.AgainLaneLemmas.{lanes-merged}
use Rattle.remerge_laws.proofs.merges.lanes_are_merged_again.Goals as goal

pub returns : goal.returns
returns c = lanes-merged c.lanes_are_read_again.ensures
