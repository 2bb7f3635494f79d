use Rattle.example_laws.proofs.InfoExamples.{identified}
use Rattle.example_laws.proofs.files_are_identified_so.Goals as goal

pub returns : goal.returns
returns c = identified
