-- The entry is sound, like the tree.
use Rattle.track_records.proofs.EntriesLemmas.{child-entry}
use Rattle.track_records.proofs.refusal.numbers_of.Goals as goal

pub number_of-requires : goal.number_of-requires
number_of-requires c = child-entry _ _ _ _ _ c.requires c.children-child-items.ensures.exact c.loop-child-test.true c.child-item.is c.id.ensures c.if-id-eq-TRACK_ENTRY.true
