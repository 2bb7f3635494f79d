use Rattle.remerge_laws.proofs.AgainChapterLemmas.{chapters-again}
use Rattle.remerge_laws.proofs.merges.chapters_are_alike_again.Goals as goal

pub returns : goal.returns
returns c = chapters-again c.chapters_stay.ensures
