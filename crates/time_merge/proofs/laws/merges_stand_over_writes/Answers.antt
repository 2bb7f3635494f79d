use Rattle.time_merge.proofs.KeptLemmas.{stands-kept}
use Rattle.time_merge.proofs.laws.merges_stand_over_writes.Goals as goal

pub returns : goal.returns
returns c = stands-kept
