-- The child is an integer of the table.
use Rattle.std.proofs.Common.{sym}
use Rattle.tree_format.proofs.ChildLemmas.{first_child-short, HasUint-of}
use Rattle.edit_changes.proofs.select.uint_in.Goals as goal

pub uint-requires : goal.uint-requires
uint-requires c = first_child-short _ _ _ c.requires.entry.sound (HasUint-of _ _ _ c.requires.entry c.requires.uint) (sym c.in-Some.ensures.exact)
