-- A TagTrackUID is an integer of the table.
use Rattle.std.proofs.Common.{sym, ◌∙◌}
use Rattle.mkv_info.proofs.ValueLemmas.{child-short, track_uid}
use Rattle.mkv_info.proofs.tag_counts.add_named.Goals as goal

pub uint-uid-requires : goal.uint-uid-requires
uint-uid-requires c = child-short _ _ _ _ _ _ c.requires track_uid c.children-child-items.ensures.exact c.loop-child-test.true c.child-item.is (sym c.id.ensures ∙ c.if-id-ne-TAG_TRACK_UID.false)
