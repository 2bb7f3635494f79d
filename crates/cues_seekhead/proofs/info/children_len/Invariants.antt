-- The sum and the rest make the whole.
use Rattle.std.proofs.Common.{◌≡◌, ◌≤◌, ◌+◌, length, flat_map, drop}
use Rattle.tree_format.specs.NormalForm.{octets, longest}
use Rattle.cues_seekhead.proofs.info.children_len.Given as goal

abbrev pub invariant-loop-child : goal.invariant-loop-child
invariant-loop-child l = record {
  same : l.total + length (flat_map octets (drop l.child-index l.children)) ≡ length (flat_map octets l.children);
  few : l.total ≤ longest;
}
