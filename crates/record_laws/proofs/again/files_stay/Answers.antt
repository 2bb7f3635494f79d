use Rattle.record_laws.proofs.FileLemmas.{files-stay}
use Rattle.record_laws.proofs.again.files_stay.Goals as goal

pub returns : goal.returns
returns c = files-stay
