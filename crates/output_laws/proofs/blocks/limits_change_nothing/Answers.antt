use Rattle.output_laws.proofs.LimitLemmas.{limits-change_nothing}
use Rattle.output_laws.proofs.blocks.limits_change_nothing.Goals as goal

pub returns : goal.returns
returns c = limits-change_nothing
