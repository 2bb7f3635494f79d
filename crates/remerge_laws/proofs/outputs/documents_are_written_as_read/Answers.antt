use Rattle.remerge_laws.proofs.AsReadLemmas.{as-read}
use Rattle.remerge_laws.proofs.outputs.documents_are_written_as_read.Goals as goal

pub returns : goal.returns
returns c = as-read
