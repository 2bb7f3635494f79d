use Rattle.example_laws.proofs.PlanExamples.{lanes}
use Rattle.example_laws.proofs.lanes_are_planned_so.Goals as goal

pub returns : goal.returns
returns c = lanes
