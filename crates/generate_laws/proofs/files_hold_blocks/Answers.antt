use Rattle.generate_laws.proofs.FileLemmas.{files-hold}
use Rattle.generate_laws.proofs.files_hold_blocks.Goals as goal

pub returns : goal.returns
returns c = files-hold
