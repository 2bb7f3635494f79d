-- The TrackUIDs so far, with those of the rest, are all.
use Rattle.std.proofs.Common.{◌≡◌, nat_eq, [], drop}
use Rattle.std.specs.List.{flat_map}
use Rattle.indexmap.specs.IndexSet.{insert_all}
use Rattle.mkv_schema.specs.declared.ids.TheConstants.{TARGETS}
use Rattle.tree_format.specs.Changes.{part}
use Rattle.mkv_info.specs.Tags.{named_in}
use Rattle.mkv_info.proofs.tag_counts.uids_named.Given as goal

abbrev pub invariant-loop-child : goal.invariant-loop-child
invariant-loop-child l = insert_all nat_eq l.uids.keys (flat_map named_in (part TARGETS (drop l.child-index l.child-items))) ≡ insert_all nat_eq [] (flat_map named_in (part TARGETS l.child-items))
