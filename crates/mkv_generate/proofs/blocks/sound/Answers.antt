use Rattle.std.proofs.Common.{◌*◌, ◌%◌, ℕ, Bool, true, if◌then◌else◌, List, ◌∷◌, [], refl, sym, subst, arith}
use Rattle.std.proofs.lemmas.Bool.{eq-eqb, ne_eqb}
use Rattle.std.proofs.lemmas.List.FromFn.{length-map-range_with_len}
use Rattle.lacing.specs.declared.kind.Lace.TheVariants as lace
use Rattle.output_model.specs.OutputBlock.{OutputBlock}
use Rattle.output_model.specs.declared.heads.OutHead.{OutHead}
use Rattle.mkv_generate.specs.Blocks.{counting, simple_block}
use Rattle.mkv_generate.specs.Made.{HasParts, IsMade}
use Rattle.mkv_generate.proofs.MadeLemmas.{made-is}
use Rattle.mkv_generate.proofs.blocks.sound.Goals as goal

-- The sound is a lace.
pub returns-then-i-eq0 : goal.returns-then-i-eq0
returns-then-i-eq0 c =
    let i = c.args.i in
    let laced : OutputBlock = simple_block (20 * i) true lace.Xiph (4 ∷ 6 ∷ []) (counting (3 * i) 10) in
    let alone : OutputBlock = simple_block (20 * i) true lace.None (5 ∷ []) (counting (3 * i) 5) in
    let made = c.laced.result in
    let has = subst (λ (own : OutHead). HasParts own (counting (3 * i) 10) (4 ∷ 6 ∷ []) made) c.simple_head.ensures
    (subst (λ (octets : List ℕ). HasParts c.simple_head.result octets (4 ∷ 6 ∷ []) made) c.counting.ensures c.laced.ensures) in
    let long = length-map-range_with_len (λ (n : ℕ). n % 256) (3 * i) 10 in
    subst (λ (b : Bool). IsMade (if b then laced else alone) made) (sym (eq-eqb (c.args.i % 3) 0 c.if-i-eq0.true))
    (made-is (20 * i) true lace.Xiph (counting (3 * i) 10) (4 ∷ 6 ∷ []) made has (omega arith) (omega arith) tt (omega arith) (omega (arith, long)))

-- The sound is one frame.
pub returns-else-i-eq0 : goal.returns-else-i-eq0
returns-else-i-eq0 c =
    let i = c.args.i in
    let laced : OutputBlock = simple_block (20 * i) true lace.Xiph (4 ∷ 6 ∷ []) (counting (3 * i) 10) in
    let alone : OutputBlock = simple_block (20 * i) true lace.None (5 ∷ []) (counting (3 * i) 5) in
    let made = c.single.result in
    let has = subst (λ (own : OutHead). HasParts own (counting (3 * i) 5) (5 ∷ []) made) c.simple_head-else-i-eq0.ensures
    (subst (λ (octets : List ℕ). HasParts c.simple_head-else-i-eq0.result octets (5 ∷ []) made) c.counting-else-i-eq0.ensures c.single.ensures) in
    let long = length-map-range_with_len (λ (n : ℕ). n % 256) (3 * i) 5 in
    subst (λ (b : Bool). IsMade (if b then laced else alone) made) (sym (ne_eqb (c.args.i % 3) 0 c.if-i-eq0.false))
    (made-is (20 * i) true lace.None (counting (3 * i) 5) (5 ∷ []) made has (omega arith) (omega arith) refl (omega arith) (omega (arith, long)))
