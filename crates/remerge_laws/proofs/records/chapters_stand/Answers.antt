use Rattle.remerge_laws.proofs.StandLemmas.{chapters-stand}
use Rattle.remerge_laws.proofs.records.chapters_stand.Goals as goal

pub returns : goal.returns
returns c = chapters-stand
