use Rattle.std.proofs.Common.{◌*◌, ◌%◌, ◌==◌, ℕ, List, ◌∷◌, [], refl, subst, arith}
use Rattle.std.proofs.lemmas.List.FromFn.{length-map-range_with_len}
use Rattle.lacing.specs.declared.kind.Lace.TheVariants as lace
use Rattle.output_model.specs.declared.heads.OutHead.{OutHead}
use Rattle.mkv_generate.specs.Blocks.{counting, picture_size}
use Rattle.mkv_generate.specs.Made.{HasParts}
use Rattle.mkv_generate.proofs.MadeLemmas.{made-is}
use Rattle.mkv_generate.proofs.blocks.picture.Goals as goal

pub returns : goal.returns
returns c =
    let i = c.args.i in
    let made = c.single.result in
    let has = subst (λ (own : OutHead). HasParts own (counting i (picture_size i)) (picture_size i ∷ []) made) c.simple_head-head.ensures
    (subst (λ (octets : List ℕ). HasParts c.simple_head-head.result octets (picture_size i ∷ []) made) c.counting.ensures c.single.ensures) in
    let long = length-map-range_with_len (λ (n : ℕ). n % 256) i (picture_size i) in
    made-is (40 * i) (i % 25 == 0) lace.None (counting i (picture_size i)) (picture_size i ∷ []) made has (omega arith) (omega arith) refl (omega arith) (omega (arith, long))
