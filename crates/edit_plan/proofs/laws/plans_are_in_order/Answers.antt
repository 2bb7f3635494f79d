use Rattle.edit_plan.proofs.PlanLemmas.{plan_of-planned}
use Rattle.edit_plan.proofs.laws.plans_are_in_order.Goals as goal

pub returns : goal.returns
returns c = plan_of-planned
