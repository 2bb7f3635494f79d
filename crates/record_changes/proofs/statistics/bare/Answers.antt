-- Each copied child is valid in the Tag.
use Rattle.ebml_tree.proofs.BuildLemmas.{put-is, built-none, built-in_place, child-of, room-of, some-of, step-some, step-none}
use Rattle.record_changes.proofs.TagFacts.{tag-master, tag-in}
use Rattle.record_changes.proofs.statistics.bare.Goals as goal
use Rattle.record_changes.proofs.statistics.bare.Goals.{in-Some+in_ok-push-in-Some, in-None}

pub empty-requires : goal.empty-requires
empty-requires c = tag-master

pub loop-child-init : goal.loop-child-init
loop-child-init c = built-none _ _ _ _ _ c.offset.ensures c.in_ok-bare.ensures

pub bare_part-requires : goal.bare_part-requires
bare_part-requires c = child-of _ _ _ _ _ c.requires c.children-child-items.ensures.exact c.loop-child-test.true c.child-item.is

pub push-requires-clause-room : goal.push-requires-clause-room
push-requires-clause-room c = room-of _ _ _ _ _ c.children-child-items.ensures.room c.loop-child-test.true c.child-item.is (some-of _ _ _ c.in_ok-part.ensures.place c.in-Some.is)

pub loop-child-preserved : goal.loop-child-preserved
loop-child-preserved c =
    let inside = c.loop-child-test.true in
    let item = c.child-item.is in
    let built = c.loop-child.invariant in
    let exact = c.in_ok-part.ensures.exact in
    elim c.match-branch-3.branch [
      | in-Some+in_ok-push-in-Some w ↦ step-some _ _ _ _ _ _ inside item _ _ built exact _ _ _ c.in_ok-part.ensures.place w.in-Some.is (put-is _ _ _ _ w.in_ok-push-in-Some.ensures.ok w.in_ok-push-in-Some.ensures.full) w.bare-is
      | in-None w ↦ step-none _ _ _ _ _ _ inside item _ _ built exact _ w.in-None.is w.bare-is
    ]

pub returns-clause-place : goal.returns-clause-place
returns-clause-place c = built-in_place _ _ _ _ _ _ _ tag-in c.requires c.children-child-items.ensures.exact c.loop-child.invariant
