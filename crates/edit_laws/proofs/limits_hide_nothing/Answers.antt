use Rattle.edit_laws.proofs.PointLemmas.{hidden-none}
use Rattle.edit_laws.proofs.limits_hide_nothing.Goals as goal

pub returns : goal.returns
returns c = hidden-none
