-- If a tree has the ID, nothing is appended, so no memory is needed.
use Rattle.tree_format.specs.Node.{id_of}
use Rattle.ebml_tree.proofs.CompactLemmas.{none-found}
use Rattle.ebml_tree.proofs.tree.content.set_in.Goals as goal

pub returns-in_err-push-in-None-clause-replaced : goal.returns-in_err-push-in-None-clause-replaced
returns-in_err-push-in-None-clause-replaced c = λ has.
    absurd (none-found c.id.result (id_of c.args.child) c.as_slice.result.now c.args.trees.now.items c.in-None.ensures.exact c.as_slice.ensures.value c.id.ensures has)
