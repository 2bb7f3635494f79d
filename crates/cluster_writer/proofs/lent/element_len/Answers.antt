use Rattle.std.proofs.Common.{sym, ◌∙◌}
use Rattle.cluster_writer.specs.Lengths.{taken_len}
use Rattle.cluster_writer.proofs.LengthLemmas.{length-lent}
use Rattle.cluster_writer.proofs.lent.element_len.Goals as goal

pub returns-clause-exact : goal.returns-clause-exact
returns-clause-exact c = λ l lent is.
    c.lengths_of.ensures.whole
    ∙ (λ i. taken_len (sym is.head i) (sym is.prefix i) (sym is.sizes i) (sym is.references i) (sym is.kept i))
    ∙ sym (length-lent l.head.tick 0 l.head.tick l lent)
