-- The bytes that were appended and the bytes of the rest are the whole.
use Rattle.std.proofs.Common.{◌≡◌, ◌++◌, map, drop}
use Rattle.output_model.specs.Cues.{point_element}
use Rattle.output_model.specs.Element.{joined}
use Rattle.reindex.specs.Reading.{cues_of}
use Rattle.reindex.proofs.cues.points_body.Given as goal

abbrev pub invariant-loop-point : goal.invariant-loop-point
invariant-loop-point l = l.body ++ joined (map point_element (cues_of (drop l.point-index l.points))) ≡ joined (map point_element (cues_of l.points))
