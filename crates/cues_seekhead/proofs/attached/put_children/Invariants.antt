-- The appended part and the rest make the whole.
use Rattle.std.proofs.Common.{◌≡◌, ◌++◌, flat_map, drop}
use Rattle.tree_format.specs.NormalForm.{octets}
use Rattle.cues_seekhead.proofs.attached.put_children.Given as goal

abbrev pub invariant-loop-child : goal.invariant-loop-child
invariant-loop-child l = l.out ++ flat_map octets (drop l.child-index l.children) ≡ l.fn.out ++ flat_map octets l.children
