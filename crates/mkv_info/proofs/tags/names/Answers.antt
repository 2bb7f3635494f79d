-- A Targets of a sound Tag is sound.
use Rattle.mkv_info.proofs.ValueLemmas.{child-sound}
use Rattle.mkv_info.proofs.tags.names.Goals as goal

pub names_in-requires : goal.names_in-requires
names_in-requires c = child-sound _ _ _ _ _ _ c.requires.sound c.children-child-items.ensures.exact c.loop-child-test.true c.child-item.is c.id.ensures c.if-id-eq-TARGETS.true
