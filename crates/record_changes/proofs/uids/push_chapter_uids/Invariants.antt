-- The identifiers of the previous editions' atoms were appended.
use Rattle.std.proofs.Common.{◌≡◌, ◌++◌, map, flat_map, take}
use Rattle.mkv_schema.specs.declared.ids.TheConstants.{EDITION_ENTRY, CHAPTER_UID}
use Rattle.tree_format.specs.Changes.{part}
use Rattle.record_changes.specs.Atoms.{value_in, atoms_inside}
use Rattle.record_changes.proofs.uids.push_chapter_uids.Given as goal

abbrev pub invariant-loop-child : goal.invariant-loop-child
invariant-loop-child l = l.uids ≡ l.fn.uids ++ map (value_in CHAPTER_UID) (flat_map atoms_inside (part EDITION_ENTRY (take l.child-index l.child-items)))
