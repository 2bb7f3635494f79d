use Rattle.remerge_laws.proofs.TreeLemmas.{alike-count}
use Rattle.remerge_laws.proofs.trees.alike_records_count_alike.Goals as goal

pub returns : goal.returns
returns c = alike-count
