use Rattle.std.proofs.Common.{◌≡◌, ◌++◌, drop, filter, flat_map}
use Rattle.tree_format.specs.NormalForm.{octets}
use Rattle.edit_changes.specs.SeekHead.{stays}
use Rattle.edit_changes.proofs.seek_head.put_staying.Given as goal

-- The bytes that were appended and the bytes of the rest are the whole.
abbrev pub invariant-loop-tree : goal.invariant-loop-tree
invariant-loop-tree l =
    l.out ++ flat_map octets (filter (stays l.ids) (drop l.tree-index l.old)) ≡ l.fn.out ++ flat_map octets (filter (stays l.ids) l.old)
