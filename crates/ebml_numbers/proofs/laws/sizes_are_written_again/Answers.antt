use Rattle.ebml_numbers.proofs.SpelledLemmas.{size-spelled}
use Rattle.ebml_numbers.proofs.laws.sizes_are_written_again.Goals as goal

pub returns : goal.returns
returns c = size-spelled
