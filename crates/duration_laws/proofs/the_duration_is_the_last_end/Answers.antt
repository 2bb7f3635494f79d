use Rattle.duration_laws.proofs.EndLemmas.{last-end}
use Rattle.duration_laws.proofs.the_duration_is_the_last_end.Goals as goal

pub returns : goal.returns
returns c = last-end
