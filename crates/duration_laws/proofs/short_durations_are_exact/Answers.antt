use Rattle.duration_laws.proofs.FloatLemmas.{short-exact}
use Rattle.duration_laws.proofs.short_durations_are_exact.Goals as goal

pub returns : goal.returns
returns c = short-exact
