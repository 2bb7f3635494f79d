-- The previous children were written.
use Rattle.std.proofs.Common.{take, map}
use Rattle.mkv_schema.specs.declared.ids.TheConstants.{TAG}
use Rattle.tree_format.specs.Node.{offset_of, nodes_of, depth_all}
use Rattle.record_changes.specs.Tags.{written_part}
use Rattle.record_changes.specs.Numbers.{numbers_in}
use Rattle.ebml_tree.specs.Building.{IsBuilt}
use Rattle.record_changes.proofs.tag.written_tag.Given as goal

abbrev pub invariant-loop-part : goal.invariant-loop-part
invariant-loop-part l = IsBuilt TAG (offset_of l.tag) (depth_all (nodes_of l.part-items)) (map (written_part (numbers_in l.map)) (take l.part-index l.part-items)) l.written
