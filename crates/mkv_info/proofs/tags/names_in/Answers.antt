-- A TagTrackUID is an integer of the table.
use Rattle.std.proofs.Common.{sym, ◌∙◌}
use Rattle.mkv_info.proofs.ValueLemmas.{child-short, track_uid}
use Rattle.mkv_info.proofs.tags.names_in.Goals as goal

pub uint-requires : goal.uint-requires
uint-requires c = child-short _ _ _ _ _ _ c.requires track_uid c.children-child-items.ensures.exact c.loop-child-test.true c.child-item.is (sym c.id.ensures ∙ c.if-id-eq-TAG_TRACK_UID.true)
