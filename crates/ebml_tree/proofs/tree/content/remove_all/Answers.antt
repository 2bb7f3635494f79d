-- The closure only tests the ID, so the kept trees are the trees with another ID.
use Rattle.std.proofs.Common.{eqb, not, rules}
use Rattle.std.proofs.lemmas.Fn.{filter_same}
use Rattle.tree_format.specs.Node.{id_of}
use Rattle.ebml_tree.proofs.tree.content.remove_all.Goals as goal

pub returns : goal.returns
returns c = filter_same _ (λ n. not (eqb (id_of n) c.args.id)) _ (λ x b f' k. search rules) _ _ c.retain.ensures.filtered
