use Rattle.merge_laws.proofs.WholeFileLemmas.{files-are_whole}
use Rattle.merge_laws.proofs.attached_files_are_whole.Goals as goal

pub returns : goal.returns
returns c = files-are_whole
