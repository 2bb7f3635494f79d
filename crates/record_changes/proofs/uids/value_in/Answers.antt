-- The identifier is valid in a sound element.
use Rattle.std.proofs.Common.{sym}
use Rattle.tree_format.proofs.ChildLemmas.{first_child-short}
use Rattle.record_changes.proofs.uids.value_in.Goals as goal

pub uint-requires : goal.uint-requires
uint-requires c = first_child-short _ _ _ c.requires.sound c.requires.uint (sym c.in-Some.ensures.exact)
