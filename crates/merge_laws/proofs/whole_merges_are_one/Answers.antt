use Rattle.merge_laws.proofs.OutputLemmas.{one-output}
use Rattle.merge_laws.proofs.whole_merges_are_one.Goals as goal

pub returns : goal.returns
returns c = one-output
