use Rattle.remerge_laws.proofs.PlainSourceLemmas.{sources-plain}
use Rattle.remerge_laws.proofs.merges.sources_are_plain.Goals as goal

pub returns : goal.returns
returns c = sources-plain c.titles_are_texts.ensures c.sources_are_read.ensures
