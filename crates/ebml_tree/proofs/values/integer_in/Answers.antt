-- The child is an integer of the table.
use Rattle.std.proofs.Common.{sym}
use Rattle.tree_format.proofs.ChildLemmas.{first_child-short}
use Rattle.ebml_tree.proofs.values.integer_in.Goals as goal

pub uint-requires : goal.uint-requires
uint-requires c = first_child-short _ _ _ c.requires.sound c.requires.uint (sym c.in_ok-child.ensures.exact)
