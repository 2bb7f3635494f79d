-- A FileUID is an integer of the table.
use Rattle.std.proofs.Common.{sym}
use Rattle.tree_format.proofs.ChildLemmas.{HasUint-of, first_child-short}
use Rattle.meta_records.proofs.PartsLemmas.{uid-none}
use Rattle.meta_records.proofs.TableFacts.{uid-known}
use Rattle.meta_records.proofs.attached.uid_of.Goals as goal

pub uint-requires : goal.uint-requires
uint-requires c = first_child-short _ _ _ c.requires.sound (HasUint-of _ _ _ c.requires uid-known) (sym c.in-Some.ensures.exact)

pub returns-in-None : goal.returns-in-None
returns-in-None c = sym (uid-none c.args.entry.now (sym c.in-None.ensures.exact))
