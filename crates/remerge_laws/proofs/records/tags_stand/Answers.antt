use Rattle.remerge_laws.proofs.StandLemmas.{tags-stand}
use Rattle.remerge_laws.proofs.records.tags_stand.Goals as goal

pub returns : goal.returns
returns c = tags-stand
