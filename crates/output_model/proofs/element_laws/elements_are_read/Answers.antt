use Rattle.output_model.proofs.ReadLemmas.{children-all}
use Rattle.output_model.proofs.element_laws.elements_are_read.Goals as goal

pub returns : goal.returns
returns c = children-all
