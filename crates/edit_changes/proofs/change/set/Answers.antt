-- The table allows the new child in the master.
use Rattle.tree_format.specs.Node.{id_of}
use Rattle.edit_changes.proofs.ChangeLemmas.{kept-id}
use Rattle.edit_changes.proofs.change.set.Goals as goal

pub returns-clause-sound : goal.returns-clause-sound
returns-clause-sound c = record {
  id = kept-id _ _ _ c.in_ok-set.ensures.ok;
  master = c.set.ensures.master;
  sound = λ was. c.set.ensures.sound was ((rw c.in-Some.is at c.in_ok-leaf.ensures.stands) (id_of c.args.tree.now) c.requires.property);
}
