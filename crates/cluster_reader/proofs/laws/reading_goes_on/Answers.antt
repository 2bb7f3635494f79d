use Rattle.cluster_reader.proofs.ReadingLemmas.{CanRead-kept}
use Rattle.cluster_reader.proofs.laws.reading_goes_on.Goals as goal

pub returns : goal.returns
returns c = CanRead-kept
