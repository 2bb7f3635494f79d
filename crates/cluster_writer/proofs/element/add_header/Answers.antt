use Rattle.std.proofs.Common.{List, ℕ, length, ap, arith, subst, sym, ◌∙◌}
use Rattle.cluster_writer.specs.Room.{Adds}
use Rattle.cluster_writer.proofs.HeaderLemmas.{short-header}
use Rattle.cluster_writer.proofs.element.add_header.Goals as goal

pub add-requires : goal.add-requires
add-requires c = omega (arith, c.requires.room, ap length (short-header c.args.id c.args.len (sym c.is_short.ensures ∙ c.if-is_short.true)))

pub returns-then-is_short : goal.returns-then-is_short
returns-then-is_short c =
    let P : List ℕ → Type 0 = λ octets. Adds c.args.out.now c.add.new.out octets in
    subst P (sym (short-header c.args.id c.args.len (sym c.is_short.ensures ∙ c.if-is_short.true))) c.add.ensures
