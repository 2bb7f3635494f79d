use Rattle.edit_laws.proofs.EditedLemmas.{nothing-else}
use Rattle.edit_laws.proofs.edits_change_nothing_else.Goals as goal

pub returns : goal.returns
returns c = nothing-else
