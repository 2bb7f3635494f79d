use Rattle.std.proofs.Common.{List, ℕ, length, ap, arith, subst, sym}
use Rattle.lacing.specs.Writing.{CanLace}
use Rattle.output_model.specs.Block.{count_and_head}
use Rattle.cluster_writer.specs.Room.{Adds}
use Rattle.cluster_writer.proofs.FramesLemmas.{prefixed-empty}
use Rattle.cluster_writer.proofs.lace.add_laced.Goals as goal

-- Without a prefix, the sizes are unchanged.
pub add_count_and_head-requires-clause-can : goal.add_count_and_head-requires-clause-can
add_count_and_head-requires-clause-can c =
    let P : List ℕ → Type 0 = λ ss. CanLace c.args.kind ss in
    subst P (prefixed-empty c.args.prefix c.args.sizes.now c.if-prefix-eq0.true) c.requires.can

pub add_count_and_head-requires-clause-room : goal.add_count_and_head-requires-clause-room
add_count_and_head-requires-clause-room c =
    omega (arith, c.requires.room, ap (λ ss. length (count_and_head c.args.kind ss)) (prefixed-empty c.args.prefix c.args.sizes.now c.if-prefix-eq0.true))

pub returns-then-prefix-eq0 : goal.returns-then-prefix-eq0
returns-then-prefix-eq0 c =
    let P : List ℕ → Type 0 = λ ss. Adds c.args.out.now c.add_count_and_head.new.out (count_and_head c.args.kind ss) in
    subst P (sym (prefixed-empty c.args.prefix c.args.sizes.now c.if-prefix-eq0.true)) c.add_count_and_head.ensures
