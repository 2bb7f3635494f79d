use Rattle.ebml_numbers.proofs.SpelledLemmas.{id-spelled}
use Rattle.ebml_numbers.proofs.laws.ids_are_written_again.Goals as goal

pub returns : goal.returns
returns c = id-spelled
