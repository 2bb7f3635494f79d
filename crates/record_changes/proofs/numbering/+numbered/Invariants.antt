-- The previous elements have their identifiers, and the next index is known.
use Rattle.std.proofs.Common.{◌≡◌, ◌+◌, length, take}
use Rattle.mkv_schema.specs.declared.ids.TheConstants.{CHAPTER_ATOM}
use Rattle.tree_format.specs.Node.{nodes_of, offset_of, depth_all, count}
use Rattle.ebml_tree.specs.Building.{IsBuilt}
use Rattle.record_changes.specs.Atoms.{atoms_among}
use Rattle.record_changes.specs.ChapterIdentifiers.{numbered_among}
use Rattle.record_changes.proofs.numbering.+numbered.Given as goal

abbrev pub invariant-loop-inner : goal.invariant-loop-inner
invariant-loop-inner l = record {
  built : IsBuilt CHAPTER_ATOM (offset_of l.child) (depth_all (nodes_of l.inner-items)) (numbered_among l.uids (l.fn.next + 1) (nodes_of (take l.inner-index l.inner-items))) l.atom;
  next : l.next ≡ l.fn.next + 1 + length (atoms_among (nodes_of (take l.inner-index l.inner-items)));
}

abbrev pub decreases-numbered : goal.decreases-numbered
decreases-numbered l = count l.child.now
