use Rattle.std.proofs.Common.{List, ℕ, length, ap, arith, subst, sym, ◌∙◌}
use Rattle.cluster_writer.specs.Room.{Adds}
use Rattle.cluster_writer.proofs.FramesLemmas.{frames-alone}
use Rattle.cluster_writer.proofs.lace.add_frames.Goals as goal

pub add-requires : goal.add-requires
add-requires c =
    omega (arith, c.requires.room, ap length (frames-alone c.args.prefix.now c.args.sizes.now c.args.body.now (sym c.is_empty.ensures ∙ c.if-is_empty.true) c.requires.whole))

pub returns-then-is_empty : goal.returns-then-is_empty
returns-then-is_empty c =
    let P : List ℕ → Type 0 = λ octets. Adds c.args.out.now c.add.new.out octets in
    subst P (sym (frames-alone c.args.prefix.now c.args.sizes.now c.args.body.now (sym c.is_empty.ensures ∙ c.if-is_empty.true) c.requires.whole)) c.add.ensures
