use Rattle.remerge_laws.proofs.OwnChapterLemmas.{own-chapters}
use Rattle.remerge_laws.proofs.records.own_chapters_stay.Goals as goal

pub returns : goal.returns
returns c = own-chapters c.chapters_stay.ensures
