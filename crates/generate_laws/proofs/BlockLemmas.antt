-- The blocks that are generated are valid and small.
use Rattle.std.specs.List.{All, range_with_len}
use Rattle.std.proofs.Common.{◌≡◌, ℕ, zero, suc, ◌+◌, ◌*◌, ◌%◌, ◌<◌, ◌≤◌, ◌==◌, Bool, true, false, if◌then◌else◌, List, [], ◌∷◌, ◌++◌, length, map, take, drop, refl, sym, ap, ap₂, subst, length-append, length-drop, arith}
use Rattle.std.proofs.lemmas.List.{length-take-le}
use Rattle.std.proofs.lemmas.List.Elements.{All-nil, All-cons, All-map}
use Rattle.std.proofs.lemmas.List.FromFn.{length-map-range_with_len}
use Rattle.lacing.specs.Writing.{CanLace, octets_of_sizes}
use Rattle.lacing.specs.declared.kind.Lace.TheVariants as lace
use Rattle.block_format.specs.Content.{frames_cut}
use Rattle.output_model.specs.Block.{lace_octets}
use Rattle.output_model.specs.OutputBlock.{OutputBlock, in_output}
use Rattle.output_model.specs.Sound.{IsSoundBlock}
use Rattle.merge_model.specs.Merged.{in_lane}
use Rattle.mkv_generate.specs.declared.blocks.MediaKind.{MediaKind}
use Rattle.mkv_generate.specs.declared.blocks.MediaKind.TheVariants.{Pictures, Sounds}
use Rattle.mkv_generate.specs.Blocks.{block_of, blocks_of, count_of, counting, picture, picture_size, simple_block, sound}
use Rattle.generate_laws.proofs.LengthLemmas.{IsSmall}

-- A valid small block within the first 4,000 seconds.
pub record IsGood (b : OutputBlock) : Type 0 where
  pub sound : IsSoundBlock b
  pub small : IsSmall b
  pub early : b.tick ≤ 4000000

-- It is one on another output track, or earlier.
pub good-in_output : (lane tick : ℕ) (b : OutputBlock) → tick ≤ b.tick → IsGood b → IsGood (in_output lane tick b)
good-in_output lane tick b before is = record {
  sound = record {
    tick = (let low = is.sound.tick in omega arith);
    frames = is.sound.frames;
    one = is.sound.one;
    simple = λ alone. (let s = is.sound.simple alone in record { duration = s.duration; references = s.references; kept = s.kept });
    group = λ grouped. (let g = is.sound.group grouped in record { key = g.key; discardable = g.discardable; duration = g.duration; references = g.references; kept = g.kept });
  };
  small = record { simple = is.small.simple; octets = is.small.octets };
  early = (let low = is.early in omega arith);
}

pub good-in_lane : (lane : ℕ) (b : OutputBlock) → IsGood b → IsGood (in_lane lane b)
good-in_lane lane b is = good-in_output lane b.tick b (omega arith) is

-- ---- one or two frames

good-one : (time : ℕ) (key : Bool) (size : ℕ) (octets : List ℕ) → time ≤ 4000000 → size ≤ 108 → length octets ≡ size → IsGood (simple_block time key lace.None (size ∷ []) octets)
good-one time key size octets soon few whole =
    let long : length (take size octets) ≡ size = length-take-le size octets (omega arith) in
    record {
      sound = record {
        tick = omega arith;
        frames = record { some = omega arith; most = omega arith; total = omega arith; fits = refl };
        one = λ _. refl;
        simple = λ _. record { duration = refl; references = refl; kept = refl };
        group = λ grouped. absurd (cc);
      };
      small = record { simple = refl; octets = omega (arith, length-append (take size octets) []) };
      early = soon;
    }

good-two : (time : ℕ) (key : Bool) (octets : List ℕ) → time ≤ 4000000 → length octets ≡ 10 → IsGood (simple_block time key lace.Xiph (4 ∷ 6 ∷ []) octets)
unfolding octets_of_sizes
good-two time key octets soon whole =
    let first : length (take 4 octets) ≡ 4 = length-take-le 4 octets (omega arith) in
    let second : length (take 6 (drop 4 octets)) ≡ 6 = length-take-le 6 (drop 4 octets) (omega (arith, length-drop 4 octets)) in
    let sizes : map length (frames_cut (4 ∷ 6 ∷ []) octets) ≡ 4 ∷ 6 ∷ [] = ap₂ (λ (a b : ℕ). a ∷ b ∷ []) first second in
    let head : length (lace_octets lace.Xiph (map length (frames_cut (4 ∷ 6 ∷ []) octets))) ≡ 2 = ap (λ (ss : List ℕ). length (lace_octets lace.Xiph ss)) sizes in
    record {
      sound = record {
        tick = omega arith;
        frames = subst (CanLace lace.Xiph) (sym sizes) (record { some = omega arith; most = omega arith; total = omega arith; fits = tt });
        one = λ alone. absurd (omega arith);
        simple = λ _. record { duration = refl; references = refl; kept = refl };
        group = λ grouped. absurd (cc);
      };
      small = record {
        simple = refl;
        octets = omega (
          arith,
          head,
          length-append (lace_octets lace.Xiph (map length (frames_cut (4 ∷ 6 ∷ []) octets))) (take 4 octets ++ (take 6 (drop 4 octets) ++ [])),
          length-append (take 4 octets) (take 6 (drop 4 octets) ++ []),
          length-append (take 6 (drop 4 octets)) [],
        );
      };
      early = soon;
    }

counting-long : (first count : ℕ) → length (counting first count) ≡ count
counting-long first count = length-map-range_with_len (λ (n : ℕ). n % 256) first count

-- ---- pictures and sounds

picture-good : (i : ℕ) → i < 100000 → IsGood (picture i)
picture-good i below = good-one (40 * i) (i % 25 == 0) (picture_size i) (counting i (picture_size i)) (omega arith) (omega arith) (counting-long i (picture_size i))

sound-good : (i : ℕ) → i < 200000 → IsGood (sound i)
sound-good i below = of (i % 3 == 0)
  where
    of : (t : Bool) → IsGood (if t then simple_block (20 * i) true lace.Xiph (4 ∷ 6 ∷ []) (counting (3 * i) 10) else simple_block (20 * i) true lace.None (5 ∷ []) (counting (3 * i) 5))
    of true = good-two (20 * i) true (counting (3 * i) 10) (omega arith) (counting-long (3 * i) 10)
    of false = good-one (20 * i) true 5 (counting (3 * i) 5) (omega arith) (omega arith) (counting-long (3 * i) 5)

block-good : (medium : MediaKind) (n i : ℕ) → n ≤ 100000 → i < count_of medium n → IsGood (block_of medium i)
block-good Pictures n i few below = picture-good i (omega arith)
block-good Sounds n i few below = sound-good i (omega arith)

-- ---- all of them

range-all : (P : ℕ → Type 0) (a n : ℕ) → ((i : ℕ) → i < a + n → P i) → All P (range_with_len a n)
range-all P a zero each = All-nil P
range-all P a (suc n) each = All-cons P a (range_with_len (a + 1) n) (each a (omega arith)) (range-all P (a + 1) n (λ i below. each i (omega arith)))

pub blocks-good : (medium : MediaKind) (n : ℕ) → n ≤ 100000 → All IsGood (blocks_of medium n)
blocks-good medium n few =
    All-map IsGood (block_of medium) (range_with_len 0 (count_of medium n))
    (range-all (λ (i : ℕ). IsGood (block_of medium i)) 0 (count_of medium n) (λ i below. block-good medium n i few (omega arith)))

pub blocks-count : (medium : MediaKind) (n : ℕ) → length (blocks_of medium n) ≡ count_of medium n
blocks-count medium n = length-map-range_with_len (block_of medium) 0 (count_of medium n)
