-- The summary covers the previous children.
use Rattle.std.proofs.Common.{◌≡◌, take, flat_map}
use Rattle.record_changes.specs.Tags.{targets_in, tag_targets_of}
use Rattle.record_changes.specs.Numbers.{numbers_in}
use Rattle.record_changes.proofs.tag.aims_in.Given as goal

abbrev pub invariant-loop-part : goal.invariant-loop-part
invariant-loop-part l = l.aims ≡ tag_targets_of (numbers_in l.map) (flat_map targets_in (take l.part-index l.part-items))
