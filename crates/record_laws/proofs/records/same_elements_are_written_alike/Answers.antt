use Rattle.record_laws.proofs.KeptLemmas.{written-alike}
use Rattle.record_laws.proofs.records.same_elements_are_written_alike.Goals as goal

pub returns : goal.returns
returns c = written-alike
