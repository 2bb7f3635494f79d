use Rattle.std.proofs.Common.{List, ℕ, length, ap, subst, sym, ◌∙◌}
use Rattle.lacing.specs.Writing.{CanLace, lace_head}
use Rattle.cluster_writer.proofs.FramesLemmas.{prefixed-empty}
use Rattle.cluster_writer.proofs.lace.head_len.Goals as goal

-- Without a prefix, the sizes are unchanged.
pub lace_len-requires : goal.lace_len-requires
lace_len-requires c =
    let P : List ℕ → Type 0 = λ ss. CanLace c.args.kind ss in
    subst P (prefixed-empty c.args.prefix c.args.sizes.now c.if-prefix-eq0.true) c.requires

pub returns-then-prefix-eq0-clause-exact : goal.returns-then-prefix-eq0-clause-exact
returns-then-prefix-eq0-clause-exact c =
    c.lace_len.ensures.exact ∙ ap (λ ss. length (lace_head c.args.kind ss)) (sym (prefixed-empty c.args.prefix c.args.sizes.now c.if-prefix-eq0.true))
