use Rattle.splitter.proofs.SectionLemmas.{steps-join}
use Rattle.splitter.proofs.laws.steps_join.Goals as goal

pub returns : goal.returns
returns c = steps-join
