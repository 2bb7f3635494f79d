use Rattle.merge_laws.proofs.LaneLemmas.{lanes-sound}
use Rattle.merge_laws.proofs.selected_blocks_are_sound.Goals as goal

pub returns : goal.returns
returns c = λ words sources sound are. lanes-sound words sources sound.scale.least are.each
