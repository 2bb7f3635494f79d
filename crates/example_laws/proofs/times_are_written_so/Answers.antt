use Rattle.example_laws.proofs.ExtractExamples.{times}
use Rattle.example_laws.proofs.times_are_written_so.Goals as goal

pub returns : goal.returns
returns c = times
