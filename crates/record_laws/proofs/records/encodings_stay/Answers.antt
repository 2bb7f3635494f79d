use Rattle.record_laws.proofs.EntryLemmas.{encodings-stay}
use Rattle.record_laws.proofs.records.encodings_stay.Goals as goal

pub returns : goal.returns
returns c = encodings-stay
