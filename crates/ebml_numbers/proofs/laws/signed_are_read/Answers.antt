use Rattle.ebml_numbers.proofs.SpelledLemmas.{int_of-octets_in}
use Rattle.ebml_numbers.proofs.laws.signed_are_read.Goals as goal

pub returns : goal.returns
returns c = int_of-octets_in
