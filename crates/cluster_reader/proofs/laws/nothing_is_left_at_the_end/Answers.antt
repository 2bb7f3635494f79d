use Rattle.cluster_reader.proofs.ReadingLemmas.{left_of-end}
use Rattle.cluster_reader.proofs.laws.nothing_is_left_at_the_end.Goals as goal

pub returns : goal.returns
returns c = left_of-end
