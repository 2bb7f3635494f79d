use Rattle.splitter.proofs.SectionLemmas.{goes-on}
use Rattle.splitter.proofs.laws.sections_go_on.Goals as goal

pub returns : goal.returns
returns c = goes-on
