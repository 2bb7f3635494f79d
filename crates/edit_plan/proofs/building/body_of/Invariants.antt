-- The bytes that were appended and the bytes of the rest are the whole.
use Rattle.std.proofs.Common.{◌≡◌, ◌++◌, drop, flat_map}
use Rattle.tree_format.specs.NormalForm.{octets}
use Rattle.edit_plan.proofs.building.body_of.Given as goal

abbrev pub invariant-loop-node : goal.invariant-loop-node
invariant-loop-node l = l.body ++ flat_map octets (drop l.node-index l.nodes) ≡ flat_map octets l.nodes
