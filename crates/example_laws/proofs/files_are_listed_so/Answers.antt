use Rattle.example_laws.proofs.InfoExamples.{listed}
use Rattle.example_laws.proofs.files_are_listed_so.Goals as goal

pub returns : goal.returns
returns c = listed
