-- An unchanged tree is read back, and so is a tree with one more valid child.
use Rattle.ebml_tree.proofs.ContentLemmas.{again-view, again-kept, again-push}
use Rattle.ebml_tree.proofs.tree.Tree.push.Goals as goal

pub returns-clause-again : goal.returns-clause-again
returns-clause-again c = λ nodes sound stands few.
    again-push c.self.inside.content c.push.new.self c.self.inside.id c.self.inside.offset c.args.self.now c.self.view_is c.requires.master sound c.args.child c.written_len.result c.self.inside.written c.self.inside.depth nodes
    c.self.invariant c.written_len.ensures.exact c.if-written-gt-LONGEST.false c.requires.room stands c.in_ok-push.ensures.ok few

pub returns-then-written-gt-LONGEST-clause-again : goal.returns-then-written-gt-LONGEST-clause-again
returns-then-written-gt-LONGEST-clause-again c = λ nodes sound stands few.
    again-view c.self.inside.id c.self.inside.offset c.self.inside.written c.self.inside.depth c.self.inside.content c.args.self.now nodes c.self.view_is c.self.invariant c.requires.master sound few

pub returns-in_err-push-clause-again : goal.returns-in_err-push-clause-again
returns-in_err-push-clause-again c = λ nodes sound stands few.
    again-kept c.self.inside.content c.push.new.self c.self.inside.id c.self.inside.offset c.args.self.now c.self.view_is c.requires.master sound c.self.inside.written c.self.inside.depth nodes c.self.invariant c.in_err-push.ensures.err few
