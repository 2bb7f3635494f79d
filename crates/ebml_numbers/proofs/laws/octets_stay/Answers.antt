use Rattle.ebml_numbers.proofs.SpelledLemmas.{AreOctets-take, AreOctets-drop}
use Rattle.ebml_numbers.proofs.laws.octets_stay.Goals as goal

pub returns : goal.returns
returns c = record { front = AreOctets-take; behind = AreOctets-drop }
