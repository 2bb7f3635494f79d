use Rattle.output_laws.proofs.EventLemmas.{stops-last}
use Rattle.output_laws.proofs.blocks.a_stop_is_the_last_event.Goals as goal

pub returns : goal.returns
returns c = stops-last
