-- A Tag of a sound Tags is sound.
use Rattle.mkv_info.proofs.ValueLemmas.{child-sound}
use Rattle.mkv_info.proofs.tag_counts.tag_counts.Goals as goal

pub count_tag-requires : goal.count_tag-requires
count_tag-requires c =
    let are = rw c.in-Some.is at c.requires in
    child-sound _ _ _ _ _ _ are.sound c.children-tag-items.ensures.exact c.loop-tag-test.true c.tag-item.is c.id.ensures c.if-id-eq-TAG.true
