use Rattle.splitter.proofs.SectionLemmas.{sections-cut}
use Rattle.splitter.proofs.laws.sections_are_cut.Goals as goal

pub returns : goal.returns
returns c = sections-cut
