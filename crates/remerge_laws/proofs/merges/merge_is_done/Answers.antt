use Rattle.remerge_laws.proofs.AgainSourceLemmas.{merge-done}
use Rattle.remerge_laws.proofs.merges.merge_is_done.Goals as goal

pub returns : goal.returns
returns c = merge-done
