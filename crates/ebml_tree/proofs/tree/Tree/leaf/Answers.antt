-- The leaf has the bytes that were put.
use Rattle.std.proofs.Common.{◌≡◌}
use Rattle.std.proofs.lemmas.Result.{IfOk-weaker}
use Rattle.ebml_numbers.specs.Number.{int_of}
use Rattle.tree_format.specs.Node.{body_of}
use Rattle.tree_format.proofs.ValueLemmas.{int_of-body}
use Rattle.ebml_tree.proofs.tree.Tree.leaf.Goals as goal

pub returns-clause-int : goal.returns-clause-int
returns-clause-int c = λ value small is.
    IfOk-weaker c.of_body.result _ (λ tree. int_of (body_of tree) ≡ value) (λ tree same. rw same (int_of-body value c.args.bytes.now small is)) c.of_body.ensures
