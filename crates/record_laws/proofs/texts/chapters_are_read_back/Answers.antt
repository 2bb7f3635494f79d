use Rattle.record_laws.proofs.ChaptersLemmas.{chapters_read_back}
use Rattle.record_laws.proofs.texts.chapters_are_read_back.Goals as goal

pub returns : goal.returns
returns c = chapters_read_back
