use Rattle.record_laws.proofs.DifferenceLemmas.{differences-told}
use Rattle.record_laws.proofs.records.differences_are_told.Goals as goal

pub returns : goal.returns
returns c = differences-told
