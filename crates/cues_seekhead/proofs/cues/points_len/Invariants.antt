-- The sum and the rest make the whole.
use Rattle.std.proofs.Common.{◌≡◌, ◌≤◌, ◌+◌, ◌*◌, length, map, drop}
use Rattle.output_model.specs.Element.{joined}
use Rattle.output_model.specs.Cues.{point_element}
use Rattle.cues_seekhead.proofs.cues.points_len.Given as goal

abbrev pub invariant-loop-point : goal.invariant-loop-point
invariant-loop-point l = record {
  same : l.total + length (joined (map point_element (drop l.point-index l.points))) ≡ length (joined (map point_element l.points));
  few : l.total ≤ 128 * l.point-index;
}
