use Rattle.remerge_laws.proofs.AgainFileLemmas.{files-stay}
use Rattle.remerge_laws.proofs.merges.attached_files_stay.Goals as goal

pub returns : goal.returns
returns c = files-stay
