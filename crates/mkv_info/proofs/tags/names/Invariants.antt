-- The wanted track is named in the rest if it is named at all.
use Rattle.std.proofs.Common.{◌≡◌, drop}
use Rattle.std.specs.List.{flat_map, list_any}
use Rattle.mkv_schema.specs.declared.ids.TheConstants.{TARGETS}
use Rattle.tree_format.specs.Changes.{part}
use Rattle.mkv_info.specs.Named.{is_wanted}
use Rattle.mkv_info.specs.Tags.{named_in}
use Rattle.mkv_info.proofs.tags.names.Given as goal

abbrev pub invariant-loop-child : goal.invariant-loop-child
invariant-loop-child l = list_any (is_wanted l.wanted) (flat_map named_in (part TARGETS (drop l.child-index l.child-items))) ≡ list_any (is_wanted l.wanted) (flat_map named_in (part TARGETS l.child-items))
