-- The tree that was read is the definition's, and keeps the limits.
use Rattle.std.proofs.Common.{◌≡◌, ◌≤◌, arith}
use Rattle.ebml_numbers.specs.Number.{AreOctets}
use Rattle.tree_format.specs.Node.{count, id_of, IsMaster}
use Rattle.tree_format.specs.Standing.{IsSound, KeepsLimits, IsReadAgain}
use Rattle.tree_format.proofs.FoundLemmas.{tree_of-sound, tree_of-count, tree_of-root, tree_of-again}
use Rattle.ebml_tree.proofs.EndLemmas.{reads-holds, reads-holds_with}
use Rattle.ebml_tree.proofs.tree.Tree.parse.Goals as goal

pub returns-clause-sound : goal.returns-clause-sound
returns-clause-sound c =
    let octets : AreOctets c.args.body.now = λ i. omega (arith, c.type_inv.body i) in
    reads-holds IsSound c.read.result _ c.read.ensures.exact (λ n is. tree_of-sound c.args.id c.args.offset c.args.base c.args.nodes c.args.body.now n octets is)

pub returns-clause-count : goal.returns-clause-count
returns-clause-count c =
    reads-holds (λ tree. count tree ≤ c.args.nodes) c.read.result _ c.read.ensures.exact (λ n is. tree_of-count c.args.id c.args.offset c.args.base c.args.nodes c.args.body.now n is)

pub returns-clause-root : goal.returns-clause-root
returns-clause-root c =
    reads-holds (λ tree. IsMaster tree × (id_of tree ≡ c.args.id)) c.read.result _ c.read.ensures.exact (λ n is. tree_of-root c.args.id c.args.offset c.args.base c.args.nodes c.args.body.now n is)

pub returns-clause-again : goal.returns-clause-again
returns-clause-again c = λ more enough.
    let octets : AreOctets c.args.body.now = λ i. omega (arith, c.type_inv.body i) in
    reads-holds_with (IsReadAgain more) KeepsLimits c.read.result _ c.read.ensures.exact c.read.ensures.limits
    (λ n is limits. tree_of-again c.args.id c.args.offset c.args.base c.args.nodes more c.args.body.now n octets is limits enough)
