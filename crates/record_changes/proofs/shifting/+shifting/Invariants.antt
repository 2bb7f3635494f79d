-- The previous elements are later.
use Rattle.std.proofs.Common.{◌+◌, ◌*◌, map, take}
use Rattle.mkv_schema.specs.declared.ids.TheConstants.{CHAPTER_ATOM}
use Rattle.tree_format.specs.Node.{nodes_of, offset_of, depth_all, count}
use Rattle.ebml_tree.specs.Building.{IsBuilt}
use Rattle.record_changes.specs.Shift.{shifted_part}
use Rattle.record_changes.proofs.shifting.+shifting.Given as goal

abbrev pub decreases-shifted_atom : goal.decreases-shifted_atom
decreases-shifted_atom l = 2 * count l.atom.now

abbrev pub decreases-shifted_part : goal.decreases-shifted_part
decreases-shifted_part l = 2 * count l.part.now + 1

abbrev pub invariant-shifted_atom-loop-part : goal.invariant-shifted_atom-loop-part
invariant-shifted_atom-loop-part l = IsBuilt CHAPTER_ATOM (offset_of l.atom) (depth_all (nodes_of l.part-items)) (map (shifted_part l.by) (take l.part-index l.part-items)) l.shifted
