-- A tree keeps the limits that the law of the normal form requires.
use Rattle.tree_format.proofs.AgainLemmas.{sound-again}
use Rattle.tree_format.proofs.OrderLemmas.{sound-without_limits}
use Rattle.tree_format.proofs.PlacedLemmas.{octets-placed_in}
use Rattle.tree_format.proofs.WrittenLemmas.{octets-kept}
use Rattle.ebml_tree.proofs.ContentLemmas.{view_limits}
use Rattle.ebml_tree.proofs.tree.Tree.put.Goals as goal

pub returns-clause-header : goal.returns-clause-header
returns-clause-header c = octets-kept c.args.self.now

pub returns-clause-again : goal.returns-clause-again
returns-clause-again c = λ nodes is sound few.
    sound-again c.args.self.now nodes is sound (view_limits c.self.inside.id c.self.inside.offset c.self.inside.written c.self.inside.depth c.self.inside.content c.args.self.now c.self.view_is c.self.invariant) few

pub returns-clause-free : goal.returns-clause-free
returns-clause-free c = λ is sound.
    sound-without_limits c.args.self.now is sound (view_limits c.self.inside.id c.self.inside.offset c.self.inside.written c.self.inside.depth c.self.inside.content c.args.self.now c.self.view_is c.self.invariant)

pub returns-clause-stable : goal.returns-clause-stable
returns-clause-stable c = λ offset base. octets-placed_in offset base c.args.self.now
