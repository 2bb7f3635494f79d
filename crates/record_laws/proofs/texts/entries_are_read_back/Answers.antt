use Rattle.record_laws.proofs.SubRipLemmas.{entries_read_back}
use Rattle.record_laws.proofs.texts.entries_are_read_back.Goals as goal

pub returns : goal.returns
returns c = entries_read_back
