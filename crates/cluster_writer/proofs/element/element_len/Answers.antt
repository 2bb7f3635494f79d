use Rattle.std.proofs.Common.{length, ap, arith, sym, ◌∙◌}
use Rattle.tree_format.proofs.WrittenLemmas.{length-header_octets}
use Rattle.cluster_writer.proofs.HeaderLemmas.{short-header}
use Rattle.cluster_writer.proofs.element.element_len.Goals as goal

pub returns-then-is_short-clause-exact : goal.returns-then-is_short-clause-exact
returns-then-is_short-clause-exact c = omega (arith, ap length (short-header c.args.id c.args.len (sym c.is_short.ensures ∙ c.if-is_short.true)))

pub returns-clause-exact : goal.returns-clause-exact
returns-clause-exact c = omega (arith, length-header_octets c.args.id c.args.len)
