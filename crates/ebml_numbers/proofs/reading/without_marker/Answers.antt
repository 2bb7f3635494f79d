-- A mask of `7 w` bits is a remainder.
use Rattle.std.proofs.Common.{◌*◌}
use Rattle.std.proofs.lemmas.Nat.{and_mask}
use Rattle.ebml_numbers.proofs.reading.without_marker.Goals as goal

pub returns : goal.returns
returns c = rw c.all_ones.ensures (and_mask c.args.number (7 * c.args.width))
