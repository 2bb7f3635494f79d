-- The previous editions were cut.
use Rattle.std.proofs.Common.{take, flat_map}
use Rattle.mkv_schema.specs.declared.ids.TheConstants.{CHAPTERS}
use Rattle.tree_format.specs.Node.{nodes_of, offset_of, depth_all}
use Rattle.ebml_tree.specs.Building.{IsBuilt}
use Rattle.record_changes.specs.Cut.{edition_within}
use Rattle.record_changes.proofs.cutting.cut.Given as goal

abbrev pub invariant-loop-child : goal.invariant-loop-child
invariant-loop-child l = IsBuilt CHAPTERS (offset_of l.chapters) (depth_all (nodes_of l.child-items)) (flat_map (edition_within l.stretch) (take l.child-index l.child-items)) l.part
