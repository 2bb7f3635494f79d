use Rattle.ebml_numbers.proofs.SpelledLemmas.{big_bytes-again}
use Rattle.ebml_numbers.proofs.laws.numbers_are_written_again.Goals as goal

pub returns : goal.returns
returns c = big_bytes-again
