use Rattle.example_laws.proofs.ExtractExamples.{coded}
use Rattle.example_laws.proofs.codecs_are_written_so.Goals as goal

pub returns : goal.returns
returns c = coded
