use Rattle.input_files.proofs.InputsLemmas.{stand-over}
use Rattle.input_files.proofs.laws.inputs_stand_over_writes.Goals as goal

pub returns : goal.returns
returns g c = stand-over g.F.Reads g.F.Files
