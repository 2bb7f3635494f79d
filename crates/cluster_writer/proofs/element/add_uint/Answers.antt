use Rattle.std.proofs.Common.{List, ℕ, length, ap, arith, subst, sym, ◌∙◌}
use Rattle.cluster_writer.specs.Room.{Adds}
use Rattle.cluster_writer.proofs.HeaderLemmas.{small-uint}
use Rattle.cluster_writer.proofs.element.add_uint.Goals as goal

pub add-requires : goal.add-requires
add-requires c = omega (arith, c.requires.room, ap length (small-uint c.args.id c.args.value (sym c.is_small.ensures ∙ c.if-is_small.true)))

pub returns-then-is_small : goal.returns-then-is_small
returns-then-is_small c =
    let P : List ℕ → Type 0 = λ octets. Adds c.args.out.now c.add.new.out octets in
    subst P (sym (small-uint c.args.id c.args.value (sym c.is_small.ensures ∙ c.if-is_small.true))) c.add.ensures
