use Rattle.std.proofs.Common.{◌≡◌, List, [], ◌∷◌, ℕ, ◌+◌, ◌++◌, get_or, pos, ◌-ℤ◌, length, ap, arith, subst, sym, ◌∙◌}
use Rattle.ebml_numbers.specs.Number.{int_octets_in}
use Rattle.output_model.specs.Block.{block_header}
use Rattle.cluster_writer.specs.Lent.{block_of}
use Rattle.cluster_writer.specs.Room.{Adds}
use Rattle.cluster_writer.proofs.HeaderLemmas.{short-header}
use Rattle.cluster_writer.proofs.block.add_headers.Goals as goal

pub add-requires : goal.add-requires
add-requires c = omega (arith, c.requires.room, ap length (short-header c.args.id c.args.len (sym c.is_short.ensures ∙ c.if-is_short.true)))

-- The element's header has two bytes, and the Block's follows.
pub returns-then-is_short : goal.returns-then-is_short
returns-then-is_short c =
    let b = c.args.block.now in
    let start : List ℕ → List ℕ = λ rest. c.args.id ∷ (128 + c.args.len) ∷ (128 + b.lane) ∷ rest in
    let ticks : (get_or c.to_be_bytes.result 0 0 ∷ get_or c.to_be_bytes.result 1 0 ∷ []) ≡ int_octets_in 2 (pos b.tick -ℤ pos c.args.timestamp) =
    ap (λ (octets : List ℕ). get_or octets 0 0 ∷ get_or octets 1 0 ∷ []) c.to_be_bytes.ensures ∙ c.relative.ensures in
    let P : List ℕ → Type 0 = λ octets. Adds c.args.out.now c.add.new.out (octets ++ block_header c.args.timestamp (block_of b)) in
    let Q : List ℕ → Type 0 = λ octets. Adds c.args.out.now c.add.new.out (start (octets ++ c.flags_of-flags.result ∷ [])) in
    let R : ℕ → Type 0 = λ flags. Adds c.args.out.now c.add.new.out (start (int_octets_in 2 (pos b.tick -ℤ pos c.args.timestamp) ++ flags ∷ [])) in
    subst P (sym (short-header c.args.id c.args.len (sym c.is_short.ensures ∙ c.if-is_short.true))) (subst R c.flags_of-flags.ensures (subst Q ticks c.add.ensures))
