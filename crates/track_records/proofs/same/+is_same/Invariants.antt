-- The children that are left on both sides decide as all of them do.
use Rattle.std.proofs.Common.{◌≡◌, drop}
use Rattle.tree_format.specs.Node.{nodes_of, count}
use Rattle.track_records.specs.Same.{without_fillers, are_same}
use Rattle.track_records.proofs.same.+is_same.Given as goal

abbrev pub invariant-loop-tree : goal.invariant-loop-tree
invariant-loop-tree l = are_same (nodes_of (drop l.tree-index l.tree-items)) (without_fillers l.others) ≡ are_same (nodes_of l.tree-items) (without_fillers l.initial.others)

abbrev pub decreases-is_same : goal.decreases-is_same
decreases-is_same l = count l.a.now
