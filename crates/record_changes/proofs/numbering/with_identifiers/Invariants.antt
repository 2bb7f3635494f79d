-- The previous editions have their identifiers, and the next indices are known.
use Rattle.std.proofs.Common.{◌≡◌, length, take, flat_map}
use Rattle.mkv_schema.specs.declared.ids.TheConstants.{CHAPTERS, EDITION_ENTRY}
use Rattle.tree_format.specs.Node.{nodes_of, offset_of, depth_all}
use Rattle.tree_format.specs.Changes.{part}
use Rattle.ebml_tree.specs.Building.{IsBuilt}
use Rattle.record_changes.specs.Atoms.{atoms_inside}
use Rattle.record_changes.specs.ChapterIdentifiers.{numbered_editions}
use Rattle.record_changes.proofs.numbering.with_identifiers.Given as goal

abbrev pub invariant-loop-child : goal.invariant-loop-child
invariant-loop-child l = record {
  built : IsBuilt CHAPTERS (offset_of l.tree) (depth_all (nodes_of l.child-items)) (numbered_editions l.editions l.chapters 0 0 (part EDITION_ENTRY (take l.child-index l.child-items))) l.written;
  edition : l.edition ≡ length (part EDITION_ENTRY (take l.child-index l.child-items));
  next : l.next ≡ length (flat_map atoms_inside (part EDITION_ENTRY (take l.child-index l.child-items)));
}
