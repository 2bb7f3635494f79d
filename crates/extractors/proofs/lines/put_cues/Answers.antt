-- A cue point of a sound Cues is sound.
use Rattle.extractors.proofs.LinesLemmas.{child-sound}
use Rattle.extractors.proofs.lines.put_cues.Goals as goal

pub put_point-requires : goal.put_point-requires
put_point-requires c = child-sound _ _ _ _ _ _ _ c.requires c.children-point-items.ensures.exact c.loop-point-test.true c.point-item.is c.id.ensures c.if-id-eq-CUE_POINT.true
