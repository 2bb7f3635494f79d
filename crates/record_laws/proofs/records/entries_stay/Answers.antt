use Rattle.record_laws.proofs.EntryLemmas.{entries-stay}
use Rattle.record_laws.proofs.records.entries_stay.Goals as goal

pub returns : goal.returns
returns c = entries-stay
