use Rattle.example_laws.proofs.ExtractExamples.{written}
use Rattle.example_laws.proofs.records_are_written_so.Goals as goal

pub returns : goal.returns
returns c = written
