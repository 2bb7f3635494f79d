use Rattle.output_laws.proofs.AreaLemmas.{overwritten}
use Rattle.output_laws.proofs.layouts.opened_is_overwritten.Goals as goal

pub returns : goal.returns
returns c = overwritten
