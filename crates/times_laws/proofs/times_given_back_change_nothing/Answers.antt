use Rattle.times_laws.proofs.LawLemmas.{nothing-changes}
use Rattle.times_laws.proofs.times_given_back_change_nothing.Goals as goal

pub returns : goal.returns
returns c = nothing-changes
