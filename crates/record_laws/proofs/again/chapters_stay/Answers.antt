use Rattle.record_laws.proofs.SettledLemmas.{chapters-stay}
use Rattle.record_laws.proofs.again.chapters_stay.Goals as goal

pub returns : goal.returns
returns c = chapters-stay
