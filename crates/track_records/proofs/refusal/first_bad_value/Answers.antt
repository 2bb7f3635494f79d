-- The entry is sound, like the tree.
use Rattle.track_records.proofs.EntriesLemmas.{child-entry}
use Rattle.track_records.proofs.refusal.first_bad_value.Goals as goal

pub bad_value-requires : goal.bad_value-requires
bad_value-requires c = child-entry _ _ _ _ _ c.requires c.children-child-items.ensures.exact c.loop-child-test.true c.child-item.is c.id.ensures c.if-id-eq-TRACK_ENTRY.true
