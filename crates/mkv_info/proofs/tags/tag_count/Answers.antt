-- A Tag of a sound Tags is sound.
use Rattle.mkv_info.proofs.ValueLemmas.{child-sound}
use Rattle.mkv_info.proofs.tags.tag_count.Goals as goal

pub is_counted-requires : goal.is_counted-requires
is_counted-requires c =
    let are = rw c.in-Some.is at c.requires in
    child-sound _ _ _ _ _ _ are.sound c.children-tag-items.ensures.exact c.loop-tag-test.true c.tag-item.is c.id.ensures c.if-id-eq-TAG.true
