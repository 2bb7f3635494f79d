use Rattle.remerge_laws.proofs.AgainTagLemmas.{tags-again}
use Rattle.remerge_laws.proofs.merges.tags_are_alike_again.Goals as goal

pub returns : goal.returns
returns c = tags-again c.tags_stay.ensures
