-- The table has the integer in a CuePoint.
use Rattle.extractors.proofs.LinesLemmas.{has_time}
use Rattle.extractors.proofs.lines.time_of.Goals as goal

pub integer_in-requires-clause-uint : goal.integer_in-requires-clause-uint
integer_in-requires-clause-uint c = has_time c.args.point.now c.requires
