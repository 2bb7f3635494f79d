use Rattle.merge_laws.proofs.SourceLemmas.{sources-read}
use Rattle.merge_laws.proofs.sources_are_read.Goals as goal

pub returns : goal.returns
returns c = λ world words sources holds sound texts is. sources-read words sources sound texts world holds is
