-- The previous elements have their identifiers, and the next index is known.
use Rattle.std.proofs.Common.{◌≡◌, ◌+◌, length, take}
use Rattle.mkv_schema.specs.declared.ids.TheConstants.{EDITION_ENTRY}
use Rattle.tree_format.specs.Node.{nodes_of, offset_of, depth_all}
use Rattle.ebml_tree.specs.Building.{IsBuilt}
use Rattle.record_changes.specs.Atoms.{atoms_among}
use Rattle.record_changes.specs.ChapterIdentifiers.{numbered_among}
use Rattle.record_changes.proofs.numbering.numbered_edition.Given as goal

abbrev pub invariant-loop-child : goal.invariant-loop-child
invariant-loop-child l = record {
  built : IsBuilt EDITION_ENTRY (offset_of l.edition) (depth_all (nodes_of l.child-items)) (numbered_among l.uids l.fn.next (nodes_of (take l.child-index l.child-items))) l.written;
  next : l.next ≡ l.fn.next + length (atoms_among (nodes_of (take l.child-index l.child-items)));
}
