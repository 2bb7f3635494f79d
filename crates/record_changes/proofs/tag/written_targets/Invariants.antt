-- The previous children were written.
use Rattle.std.proofs.Common.{take, flat_map}
use Rattle.mkv_schema.specs.declared.ids.TheConstants.{TARGETS}
use Rattle.tree_format.specs.Node.{offset_of, nodes_of, depth_all}
use Rattle.record_changes.specs.Tags.{written_target}
use Rattle.record_changes.specs.Numbers.{numbers_in}
use Rattle.ebml_tree.specs.Building.{IsBuilt}
use Rattle.record_changes.proofs.tag.written_targets.Given as goal

abbrev pub invariant-loop-child : goal.invariant-loop-child
invariant-loop-child l = IsBuilt TARGETS (offset_of l.targets) (depth_all (nodes_of l.child-items)) (flat_map (written_target (numbers_in l.map)) (take l.child-index l.child-items)) l.written
