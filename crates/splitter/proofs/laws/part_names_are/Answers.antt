use Rattle.splitter.proofs.NameLemmas.{part-names}
use Rattle.splitter.proofs.laws.part_names_are.Goals as goal

pub returns : goal.returns
returns c = part-names
