use Rattle.remerge_laws.proofs.WholeLemmas.{one-document}
use Rattle.remerge_laws.proofs.merges.whole_merges_have_one_document.Goals as goal

pub returns : goal.returns
returns c = one-document
