use Rattle.remux_plan.proofs.PartsLemmas.{whole-output}
use Rattle.remux_plan.proofs.laws.whole_is_one_output.Goals as goal

pub returns : goal.returns
returns c = whole-output
