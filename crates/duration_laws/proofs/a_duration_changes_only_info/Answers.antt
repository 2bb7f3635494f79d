use Rattle.duration_laws.proofs.ChangeLemmas.{only-info}
use Rattle.duration_laws.proofs.a_duration_changes_only_info.Goals as goal

pub returns : goal.returns
returns c = only-info
