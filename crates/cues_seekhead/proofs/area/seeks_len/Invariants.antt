-- The sum and the rest make the whole.
use Rattle.std.proofs.Common.{◌≡◌, ◌≤◌, ◌+◌, ◌*◌, length, map, drop}
use Rattle.output_model.specs.Element.{joined}
use Rattle.output_model.specs.SeekHead.{seek_element}
use Rattle.cues_seekhead.proofs.area.seeks_len.Given as goal

abbrev pub invariant-loop-seek : goal.invariant-loop-seek
invariant-loop-seek l = record {
  same : l.total + length (joined (map seek_element (drop l.seek-index l.seeks))) ≡ length (joined (map seek_element l.seeks));
  few : l.total ≤ 27 * l.seek-index;
}
