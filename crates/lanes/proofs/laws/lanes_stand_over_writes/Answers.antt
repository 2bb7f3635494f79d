use Rattle.lanes.proofs.KeptLemmas.{stands-kept}
use Rattle.lanes.proofs.laws.lanes_stand_over_writes.Goals as goal

pub returns : goal.returns
returns c = stands-kept
