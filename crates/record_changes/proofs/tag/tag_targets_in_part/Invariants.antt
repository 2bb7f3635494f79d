-- The summary covers the previous children.
use Rattle.std.proofs.Common.{◌≡◌, take, filter}
use Rattle.record_changes.specs.Tags.{is_target, tag_targets_of}
use Rattle.record_changes.specs.Numbers.{numbers_in}
use Rattle.record_changes.proofs.tag.tag_targets_in_part.Given as goal

abbrev pub invariant-loop-child : goal.invariant-loop-child
invariant-loop-child l = l.aims ≡ tag_targets_of (numbers_in l.map) (filter is_target (take l.child-index l.child-items))
