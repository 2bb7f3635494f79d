-- The atom's identifier and the ones of the previous atoms inside it were appended.
use Rattle.std.proofs.Common.{◌≡◌, ◌++◌, ◌∷◌, [], map, take}
use Rattle.mkv_schema.specs.declared.ids.TheConstants.{CHAPTER_UID}
use Rattle.tree_format.specs.Node.{nodes_of, count}
use Rattle.record_changes.specs.Atoms.{value_in, atoms_among}
use Rattle.record_changes.proofs.uids.+push_atom_uids.Given as goal

abbrev pub invariant-loop-inner : goal.invariant-loop-inner
invariant-loop-inner l = l.uids ≡ (l.fn.uids ++ value_in CHAPTER_UID l.child ∷ []) ++ map (value_in CHAPTER_UID) (atoms_among (nodes_of (take l.inner-index l.inner-items)))

abbrev pub decreases-push_atom_uids : goal.decreases-push_atom_uids
decreases-push_atom_uids l = count l.child.now
