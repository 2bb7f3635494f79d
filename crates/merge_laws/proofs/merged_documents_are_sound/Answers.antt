use Rattle.merge_laws.proofs.MergeLemmas.{documents-sound}
use Rattle.merge_laws.proofs.merged_documents_are_sound.Goals as goal

pub returns : goal.returns
returns c = documents-sound
