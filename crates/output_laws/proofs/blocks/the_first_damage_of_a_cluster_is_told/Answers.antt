use Rattle.output_laws.proofs.EventLemmas.{then-first_wrong}
use Rattle.output_laws.proofs.blocks.the_first_damage_of_a_cluster_is_told.Goals as goal

pub returns : goal.returns
returns c = then-first_wrong
