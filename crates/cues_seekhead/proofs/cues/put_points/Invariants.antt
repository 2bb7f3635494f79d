-- The appended part and the rest make the whole.
use Rattle.std.proofs.Common.{◌≡◌, ◌++◌, map, drop}
use Rattle.output_model.specs.Element.{joined}
use Rattle.output_model.specs.Cues.{point_element}
use Rattle.cues_seekhead.proofs.cues.put_points.Given as goal

abbrev pub invariant-loop-point : goal.invariant-loop-point
invariant-loop-point l = l.out ++ joined (map point_element (drop l.point-index l.points)) ≡ l.fn.out ++ joined (map point_element l.points)
