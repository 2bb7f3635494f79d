use Rattle.duration_laws.proofs.FloatLemmas.{long-nearest}
use Rattle.duration_laws.proofs.long_durations_are_nearest.Goals as goal

pub returns : goal.returns
returns c = long-nearest
