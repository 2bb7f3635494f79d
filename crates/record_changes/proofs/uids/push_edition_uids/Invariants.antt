-- The identifiers of the previous editions were appended.
use Rattle.std.proofs.Common.{◌≡◌, ◌++◌, map, take}
use Rattle.mkv_schema.specs.declared.ids.TheConstants.{EDITION_ENTRY, EDITION_UID}
use Rattle.tree_format.specs.Changes.{part}
use Rattle.record_changes.specs.Atoms.{value_in}
use Rattle.record_changes.proofs.uids.push_edition_uids.Given as goal

abbrev pub invariant-loop-child : goal.invariant-loop-child
invariant-loop-child l = l.uids ≡ l.fn.uids ++ map (value_in EDITION_UID) (part EDITION_ENTRY (take l.child-index l.child-items))
