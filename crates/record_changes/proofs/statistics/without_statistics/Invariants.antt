-- The previous children were kept without their statistics.
use Rattle.std.proofs.Common.{take, flat_map}
use Rattle.mkv_schema.specs.declared.ids.TheConstants.{TAGS}
use Rattle.tree_format.specs.Node.{offset_of, nodes_of, depth_all}
use Rattle.record_changes.specs.Statistics.{without_its_statistics}
use Rattle.ebml_tree.specs.Building.{IsBuilt}
use Rattle.record_changes.proofs.statistics.without_statistics.Given as goal

abbrev pub invariant-loop-child : goal.invariant-loop-child
invariant-loop-child l = IsBuilt TAGS (offset_of l.tags) (depth_all (nodes_of l.child-items)) (flat_map without_its_statistics (take l.child-index l.child-items)) l.kept
