use Rattle.std.proofs.Common.{length, ap, sym, ◌∙◌, arith}
use Rattle.cluster_writer.proofs.HeaderLemmas.{small-uint}
use Rattle.cluster_writer.proofs.element.uint_len.Goals as goal

pub returns-then-is_small-clause-exact : goal.returns-then-is_small-clause-exact
returns-then-is_small-clause-exact c = omega (arith, ap length (small-uint c.args.id c.args.value (sym c.is_small.ensures ∙ c.if-is_small.true)))
