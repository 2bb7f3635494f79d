use Rattle.record_changes.proofs.GivenLemmas.{numbers-settle}
use Rattle.record_changes.proofs.identifier_laws.numbers_settle.Goals as goal

pub returns : goal.returns
returns c = numbers-settle
