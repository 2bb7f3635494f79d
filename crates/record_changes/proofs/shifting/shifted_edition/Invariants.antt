-- The previous elements are later.
use Rattle.std.proofs.Common.{map, take}
use Rattle.mkv_schema.specs.declared.ids.TheConstants.{EDITION_ENTRY}
use Rattle.tree_format.specs.Node.{nodes_of, offset_of, depth_all}
use Rattle.ebml_tree.specs.Building.{IsBuilt}
use Rattle.record_changes.specs.Shift.{shifted_in_edition}
use Rattle.record_changes.proofs.shifting.shifted_edition.Given as goal

abbrev pub invariant-loop-inner : goal.invariant-loop-inner
invariant-loop-inner l = IsBuilt EDITION_ENTRY (offset_of l.child) (depth_all (nodes_of l.inner-items)) (map (shifted_in_edition l.by) (take l.inner-index l.inner-items)) l.shifted
