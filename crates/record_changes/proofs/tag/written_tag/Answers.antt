-- Each written child is valid in the Tag.
use Rattle.ebml_tree.proofs.BuildLemmas.{put-is, built-none, child-of, room-of, built-in_place, map-one}
use Rattle.record_changes.proofs.TagFacts.{tag-master, tag-in}
use Rattle.record_changes.proofs.tag.written_tag.Goals as goal

pub empty-requires : goal.empty-requires
empty-requires c = tag-master

pub loop-part-init : goal.loop-part-init
loop-part-init c = built-none _ _ _ _ _ c.offset.ensures c.in_ok-written.ensures

pub written_part-requires : goal.written_part-requires
written_part-requires c = child-of _ _ _ _ _ c.requires c.children-part-items.ensures.exact c.loop-part-test.true c.part-item.is

pub push-requires-clause-room : goal.push-requires-clause-room
push-requires-clause-room c = room-of _ _ _ _ _ c.children-part-items.ensures.room c.loop-part-test.true c.part-item.is c.in_ok-written_part.ensures.place

pub loop-part-preserved : goal.loop-part-preserved
loop-part-preserved c = map-one _ _ _ _ _ _ c.loop-part-test.true c.part-item.is _ _ _ c.loop-part.invariant c.in_ok-written_part.ensures.exact c.in_ok-written_part.ensures.place (put-is _ _ _ _ c.in_ok-push.ensures.ok c.in_ok-push.ensures.full)

pub returns-clause-place : goal.returns-clause-place
returns-clause-place c = built-in_place _ _ _ _ _ _ _ tag-in c.requires c.children-part-items.ensures.exact c.loop-part.invariant
