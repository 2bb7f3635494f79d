use Rattle.output_laws.proofs.SoundLemmas.{placed-sound}
use Rattle.output_laws.proofs.merges.placed_blocks_are_sound.Goals as goal

pub returns : goal.returns
returns c = placed-sound
