-- The previous elements are later.
use Rattle.std.proofs.Common.{map, take}
use Rattle.mkv_schema.specs.declared.ids.TheConstants.{CHAPTERS}
use Rattle.tree_format.specs.Node.{nodes_of, offset_of, depth_all}
use Rattle.ebml_tree.specs.Building.{IsBuilt}
use Rattle.record_changes.specs.Shift.{shifted_edition}
use Rattle.record_changes.proofs.shifting.shift.Given as goal

abbrev pub invariant-loop-child : goal.invariant-loop-child
invariant-loop-child l = IsBuilt CHAPTERS (offset_of l.fn.chapters) (depth_all (nodes_of l.child-items)) (map (shifted_edition l.by) (take l.child-index l.child-items)) l.shifted
