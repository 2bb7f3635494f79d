-- The entry is sound, like the tree.
use Rattle.track_records.proofs.EntriesLemmas.{child-entry, entries-room}
use Rattle.track_records.proofs.tracks.tracks_in.Goals as goal

pub track_of-requires : goal.track_of-requires
track_of-requires c = child-entry _ _ _ _ _ c.requires c.children-child-items.ensures.exact c.loop-child-test.true c.child-item.is c.id.ensures c.if-id-eq-TRACK_ENTRY.true

pub returns-clause-room : goal.returns-clause-room
returns-clause-room c = entries-room c.args.tracks.now _ c.children-child-items.ensures.exact c.children-child-items.ensures.room
