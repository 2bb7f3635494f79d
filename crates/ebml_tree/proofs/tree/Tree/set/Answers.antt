-- An unchanged tree is read back, and so is a tree with one more valid child.
use Rattle.ebml_tree.proofs.ContentLemmas.{again-view, again-kept, again-set}
use Rattle.ebml_tree.proofs.tree.Tree.set.Goals as goal

pub returns-clause-again : goal.returns-clause-again
returns-clause-again c = λ nodes sound stands few.
    again-set c.self.inside.content c.set.new.self c.self.inside.id c.self.inside.offset c.args.self.now c.self.view_is c.requires.master sound c.args.child c.kids.result.now c.written_without-others.result c.written_len.result c.id.result c.self.inside.written c.self.inside.depth nodes
    c.self.invariant c.kids.ensures c.id.ensures c.written_without-others.ensures c.written_len.ensures.exact c.if-written-gt-LONGEST.false c.requires.room stands c.in_ok-set.ensures.ok few

pub returns-then-written-gt-LONGEST-clause-again : goal.returns-then-written-gt-LONGEST-clause-again
returns-then-written-gt-LONGEST-clause-again c = λ nodes sound stands few.
    again-view c.self.inside.id c.self.inside.offset c.self.inside.written c.self.inside.depth c.self.inside.content c.args.self.now nodes c.self.view_is c.self.invariant c.requires.master sound few

pub returns-in_err-set-clause-again : goal.returns-in_err-set-clause-again
returns-in_err-set-clause-again c = λ nodes sound stands few.
    again-kept c.self.inside.content c.set.new.self c.self.inside.id c.self.inside.offset c.args.self.now c.self.view_is c.requires.master sound c.self.inside.written c.self.inside.depth nodes c.self.invariant c.in_err-set.ensures.err few
