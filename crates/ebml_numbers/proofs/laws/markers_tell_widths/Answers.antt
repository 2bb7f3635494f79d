use Rattle.ebml_numbers.proofs.NumberLemmas.{uint_width-is_id}
use Rattle.ebml_numbers.proofs.laws.markers_tell_widths.Goals as goal

pub returns : goal.returns
returns c = uint_width-is_id
