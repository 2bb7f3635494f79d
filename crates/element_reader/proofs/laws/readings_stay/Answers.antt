use Rattle.element_reader.proofs.KeptLemmas.{CanRead-kept, IsInFile-kept}
use Rattle.element_reader.proofs.laws.readings_stay.Goals as goal

pub returns : goal.returns
returns c = record { place = CanRead-kept; element = IsInFile-kept }
