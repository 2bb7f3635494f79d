-- The previous elements were cut.
use Rattle.std.proofs.Common.{◌+◌, ◌*◌}
use Rattle.tree_format.specs.Node.{id_of, offset_of, count}
use Rattle.record_changes.proofs.CutLemmas.{IsCutTo}
use Rattle.record_changes.proofs.cutting.+cutting.Given as goal

abbrev pub decreases-cut_child : goal.decreases-cut_child
decreases-cut_child l = 2 * count l.child.now + 1

abbrev pub decreases-cut_inside : goal.decreases-cut_inside
decreases-cut_inside l = 2 * count l.parent.now

abbrev pub invariant-cut_inside-loop-k : goal.invariant-cut_inside-loop-k
invariant-cut_inside-loop-k l = IsCutTo (id_of l.parent) (offset_of l.parent) l.k l.stretch l.children l.written
