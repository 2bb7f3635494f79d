use Rattle.splitter.proofs.NameLemmas.{part-names-differ}
use Rattle.splitter.proofs.laws.part_names_differ.Goals as goal

pub returns : goal.returns
returns c = part-names-differ
