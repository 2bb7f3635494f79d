-- The table has the integer in a CueTrackPositions.
use Rattle.extractors.proofs.LinesLemmas.{has_track}
use Rattle.extractors.proofs.lines.put_place.Goals as goal

pub integer_in-requires-clause-uint : goal.integer_in-requires-clause-uint
integer_in-requires-clause-uint c = has_track c.args.place.now c.requires
