-- A Targets of a sound Tag is sound.
use Rattle.mkv_info.proofs.ValueLemmas.{child-sound}
use Rattle.mkv_info.proofs.tag_counts.uids_named.Goals as goal

pub add_named-requires : goal.add_named-requires
add_named-requires c = child-sound _ _ _ _ _ _ c.requires.sound c.children-child-items.ensures.exact c.loop-child-test.true c.child-item.is c.id.ensures c.if-id-eq-TARGETS.true
