use Rattle.edit_plan.proofs.PlanLemmas.{parts-in-order}
use Rattle.edit_plan.proofs.laws.parts_are_in_order.Goals as goal

pub returns : goal.returns
returns c = parts-in-order
