use Rattle.input_files.proofs.InputsLemmas.{end-as-begun}
use Rattle.input_files.proofs.laws.inputs_end_as_begun.Goals as goal

pub returns : goal.returns
returns g c = end-as-begun g.F.Reads g.F.Files g.met.F.Files.numbered
