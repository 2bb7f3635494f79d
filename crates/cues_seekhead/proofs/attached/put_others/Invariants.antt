-- The appended part and the rest make the whole.
use Rattle.std.proofs.Common.{◌≡◌, ◌++◌, flat_map, drop}
use Rattle.mkv_schema.specs.declared.ids.TheConstants.{FILE_DATA}
use Rattle.tree_format.specs.NormalForm.{octets}
use Rattle.tree_format.specs.Changes.{without}
use Rattle.cues_seekhead.proofs.attached.put_others.Given as goal

abbrev pub invariant-loop-child : goal.invariant-loop-child
invariant-loop-child l = l.out ++ flat_map octets (without FILE_DATA (drop l.child-index l.children)) ≡ l.fn.out ++ flat_map octets (without FILE_DATA l.children)
