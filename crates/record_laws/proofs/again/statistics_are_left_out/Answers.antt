use Rattle.record_laws.proofs.StatisticsLemmas.{statistics-left-out}
use Rattle.record_laws.proofs.again.statistics_are_left_out.Goals as goal

pub returns : goal.returns
returns c = statistics-left-out
