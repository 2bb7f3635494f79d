-- The wanted track is named in the rest if it is named at all.
use Rattle.std.proofs.Common.{◌≡◌, drop}
use Rattle.std.specs.List.{list_any}
use Rattle.mkv_info.specs.Named.{is_wanted}
use Rattle.mkv_info.specs.Tags.{named_among}
use Rattle.mkv_info.proofs.tags.names_in.Given as goal

abbrev pub invariant-loop-child : goal.invariant-loop-child
invariant-loop-child l = list_any (is_wanted l.wanted) (named_among (drop l.child-index l.child-items)) ≡ list_any (is_wanted l.wanted) (named_among l.child-items)
