use Rattle.mkv_schema.proofs.OutlineLemmas.{limits-only_refuse}
use Rattle.mkv_schema.proofs.element_laws.limits_only_refuse.Goals as goal

pub returns : goal.returns
returns c = limits-only_refuse
