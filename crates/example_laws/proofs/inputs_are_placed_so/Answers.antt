use Rattle.example_laws.proofs.PlanExamples.{places}
use Rattle.example_laws.proofs.inputs_are_placed_so.Goals as goal

pub returns : goal.returns
returns c = places
