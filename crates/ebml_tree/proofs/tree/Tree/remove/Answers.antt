-- The remaining children are still valid.
use Rattle.ebml_tree.proofs.ContentLemmas.{has-master, sound-removed, again-remove}
use Rattle.ebml_tree.proofs.tree.Tree.remove.Goals as goal

pub returns-clause-sound : goal.returns-clause-sound
returns-clause-sound c = λ sound.
    sound-removed c.self.inside.content c.remove.new.self c.self.inside.id c.self.inside.offset c.args.id c.args.self.now c.self.view_is c.requires c.remove.ensures sound

pub returns-clause-master : goal.returns-clause-master
returns-clause-master c = has-master c.remove.new.self _ c.self.inside.id c.self.inside.offset c.remove.ensures

pub returns-clause-again : goal.returns-clause-again
returns-clause-again c = λ nodes sound few.
    again-remove c.self.inside.content c.remove.new.self c.self.inside.id c.self.inside.offset c.args.self.now c.self.view_is c.requires sound c.args.id c.self.inside.written c.self.inside.depth nodes c.self.invariant c.remove.ensures few
