use Rattle.std.proofs.Common.{◌-◌, arith}
use Rattle.output_model.proofs.WrittenLemmas.{children-written}
use Rattle.output_model.proofs.element_laws.children_are_written.Goals as goal

pub returns : goal.returns
returns c = λ bytes p e octets ordered within none. children-written (e - p) bytes p e octets ordered within (omega arith) none
