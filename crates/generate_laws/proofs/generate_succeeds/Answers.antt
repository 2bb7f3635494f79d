use Rattle.generate_laws.proofs.GeneratedLemmas.{generated}
use Rattle.generate_laws.proofs.generate_succeeds.Goals as goal

pub returns : goal.returns
returns c = generated
