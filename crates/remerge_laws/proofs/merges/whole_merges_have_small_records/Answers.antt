use Rattle.remerge_laws.proofs.WholeLemmas.{whole-planned}
use Rattle.remerge_laws.proofs.merges.whole_merges_have_small_records.Goals as goal

pub returns : goal.returns
returns c = whole-planned
