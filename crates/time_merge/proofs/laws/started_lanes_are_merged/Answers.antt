use Rattle.time_merge.proofs.KeptLemmas.{started-merged}
use Rattle.time_merge.proofs.laws.started_lanes_are_merged.Goals as goal

pub returns : goal.returns
returns c = started-merged
