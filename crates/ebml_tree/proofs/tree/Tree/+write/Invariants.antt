-- The written bytes and the remaining ones are the whole, after the bytes that were there before.
use Rattle.std.proofs.Common.{◌≡◌, ◌++◌, length, flat_map, take, drop}
use Rattle.tree_format.specs.NormalForm.{octets}
use Rattle.ebml_tree.proofs.tree.Tree.+write.Given as goal

abbrev pub invariant-loop-tree : goal.invariant-loop-tree
invariant-loop-tree l = record {
  whole : l.out.items ++ flat_map octets (drop l.tree-index l.tree-items) ≡ l.initial.out.items ++ flat_map octets l.tree-items;
  front : take (length l.fn.out.items) l.out.items ≡ l.fn.out.items;
}
