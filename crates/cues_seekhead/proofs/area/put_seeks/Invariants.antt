-- The appended part and the rest make the whole.
use Rattle.std.proofs.Common.{◌≡◌, ◌++◌, map, drop}
use Rattle.output_model.specs.Element.{joined}
use Rattle.output_model.specs.SeekHead.{seek_element}
use Rattle.cues_seekhead.proofs.area.put_seeks.Given as goal

abbrev pub invariant-loop-seek : goal.invariant-loop-seek
invariant-loop-seek l = l.out ++ joined (map seek_element (drop l.seek-index l.seeks)) ≡ l.fn.out ++ joined (map seek_element l.seeks)
