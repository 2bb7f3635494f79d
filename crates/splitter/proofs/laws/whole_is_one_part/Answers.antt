use Rattle.splitter.proofs.SectionLemmas.{whole-part}
use Rattle.splitter.proofs.laws.whole_is_one_part.Goals as goal

pub returns : goal.returns
returns c = whole-part
