use Rattle.output_laws.proofs.KindLemmas.{found-kind}
use Rattle.output_laws.proofs.merges.found_blocks_are_of_their_kind.Goals as goal

pub returns : goal.returns
returns c = found-kind
