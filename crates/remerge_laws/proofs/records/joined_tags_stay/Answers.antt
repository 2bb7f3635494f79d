use Rattle.remerge_laws.proofs.JoinedLemmas.{joined-stay}
use Rattle.remerge_laws.proofs.records.joined_tags_stay.Goals as goal

pub returns : goal.returns
returns c = joined-stay c.tags_stay.ensures
