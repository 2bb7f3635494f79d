use Rattle.record_changes.proofs.FreeLemmas.{smallest-free}
use Rattle.record_changes.proofs.identifier_laws.smallest_is_free.Goals as goal

pub returns : goal.returns
returns c = smallest-free
