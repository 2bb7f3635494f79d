use Rattle.record_changes.proofs.GivenLemmas.{numbers-fit}
use Rattle.record_changes.proofs.identifier_laws.numbers_fit.Goals as goal

pub returns : goal.returns
returns c = numbers-fit
