use Rattle.record_laws.proofs.TagLemmas.{tags-stay}
use Rattle.record_laws.proofs.again.tags_stay.Goals as goal

pub returns : goal.returns
returns c = tags-stay
