-- The TrackUIDs so far, with those of the rest, are all.
use Rattle.std.proofs.Common.{◌≡◌, nat_eq, drop}
use Rattle.indexmap.specs.IndexSet.{insert_all}
use Rattle.mkv_info.specs.Tags.{named_among}
use Rattle.mkv_info.proofs.tag_counts.add_named.Given as goal

abbrev pub invariant-loop-child : goal.invariant-loop-child
invariant-loop-child l = insert_all nat_eq l.uids.keys (named_among (drop l.child-index l.child-items)) ≡ insert_all nat_eq l.initial.uids.keys (named_among l.child-items)
