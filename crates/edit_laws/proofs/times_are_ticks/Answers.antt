use Rattle.edit_laws.proofs.TickLemmas.{times-ticks}
use Rattle.edit_laws.proofs.times_are_ticks.Goals as goal

pub returns : goal.returns
returns c = times-ticks
