use Rattle.merge_laws.proofs.BoundLemmas.{reads-bounded}
use Rattle.merge_laws.proofs.reads_are_bounded_by_lengths.Goals as goal

pub returns : goal.returns
returns c = reads-bounded
