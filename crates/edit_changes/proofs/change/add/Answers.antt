-- The table allows the new child in the master.
use Rattle.tree_format.specs.Node.{id_of}
use Rattle.edit_changes.proofs.ChangeLemmas.{kept-id}
use Rattle.edit_changes.proofs.change.add.Goals as goal

pub returns-clause-sound : goal.returns-clause-sound
returns-clause-sound c = record {
  id = kept-id _ _ _ c.in_ok-push.ensures.ok;
  master = c.push.ensures.master;
  sound = λ was. c.push.ensures.sound was ((rw c.in-Some.is at c.in_ok-leaf.ensures.stands) (id_of c.args.tree.now) c.requires.property);
}
