use Rattle.cluster_reader.proofs.ToldDamagesLemmas.{with_damage-told}
use Rattle.cluster_reader.proofs.laws.damages_are_told_in_turn.Goals as goal

pub returns : goal.returns
returns c = with_damage-told
