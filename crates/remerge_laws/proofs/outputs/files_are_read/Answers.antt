use Rattle.remerge_laws.proofs.FileLemmas.{files-found}
use Rattle.remerge_laws.proofs.outputs.files_are_read.Goals as goal

pub returns : goal.returns
returns c = files-found
