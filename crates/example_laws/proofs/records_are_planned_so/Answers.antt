use Rattle.example_laws.proofs.PlanExamples.{records}
use Rattle.example_laws.proofs.records_are_planned_so.Goals as goal

pub returns : goal.returns
returns c = records
