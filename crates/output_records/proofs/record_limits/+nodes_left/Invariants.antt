-- The rest of `nodes` and the written children that were counted are constant together.
use Rattle.std.proofs.Common.{◌≡◌, ◌+◌, drop}
use Rattle.tree_format.specs.Node.{nodes_of, count}
use Rattle.tree_format.specs.Standing.{kept, kept_all}
use Rattle.output_records.proofs.record_limits.+nodes_left.Given as goal

abbrev pub invariant-loop-child : goal.invariant-loop-child
invariant-loop-child l = l.left + kept l.tree ≡ l.nodes + kept_all (nodes_of (drop l.child-index l.child-items))

abbrev pub decreases-nodes_left : goal.decreases-nodes_left
decreases-nodes_left l = count l.tree.now
