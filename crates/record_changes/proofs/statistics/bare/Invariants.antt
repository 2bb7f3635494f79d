-- The previous children that aren't statistics were copied.
use Rattle.std.proofs.Common.{take, flat_map}
use Rattle.mkv_schema.specs.declared.ids.TheConstants.{TAG}
use Rattle.tree_format.specs.Node.{offset_of, nodes_of, depth_all}
use Rattle.record_changes.specs.Statistics.{bare_part, bytes_of}
use Rattle.ebml_tree.specs.Building.{IsBuilt}
use Rattle.record_changes.proofs.statistics.bare.Given as goal

abbrev pub invariant-loop-child : goal.invariant-loop-child
invariant-loop-child l = IsBuilt TAG (offset_of l.tag) (depth_all (nodes_of l.child-items)) (flat_map (bare_part (bytes_of l.names.keys)) (take l.child-index l.child-items)) l.bare
