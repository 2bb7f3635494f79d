-- The identifiers of the previous atoms were appended.
use Rattle.std.proofs.Common.{◌≡◌, ◌++◌, map, take}
use Rattle.mkv_schema.specs.declared.ids.TheConstants.{CHAPTER_UID}
use Rattle.tree_format.specs.Node.{nodes_of}
use Rattle.record_changes.specs.Atoms.{value_in, atoms_among}
use Rattle.record_changes.proofs.uids.push_uids_inside.Given as goal

abbrev pub invariant-loop-inner : goal.invariant-loop-inner
invariant-loop-inner l = l.uids ≡ l.fn.uids ++ map (value_in CHAPTER_UID) (atoms_among (nodes_of (take l.inner-index l.inner-items)))
