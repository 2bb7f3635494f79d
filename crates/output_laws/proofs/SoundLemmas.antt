-- A placed block is valid if a reader finds it.
use Rattle.std.proofs.Common.{◌≡◌, ℕ, ◌+◌, ◌-◌, ◌*◌, ◌/◌, ◌^◌, ◌<◌, ◌≤◌, ◌==◌, nat_abs, ℤ, pos, negsuc, List, [], ◌∷◌, length, map, All, Option, Some, None, IfSome, refl, sym, ap, ◌∙◌, subst, arith}
use Rattle.std.specs.Prelude.{◌+ℤ◌}
use Rattle.std.specs.Option.{option_map}
use Rattle.std.proofs.Math.Nat.{add-mul}
use Rattle.std.proofs.lemmas.Int.{ints}
use Rattle.std.proofs.lemmas.List.{length-map}
use Rattle.std.proofs.lemmas.List.Elements.{All-nil, All-cons, All-head, All-tail}
use Rattle.std.proofs.lemmas.Nat.{div_below}
use Rattle.ebml_numbers.specs.Number.{magnitude}
use Rattle.lacing.specs.declared.kind.Lace.{Lace}
use Rattle.lacing.specs.declared.kind.Lace.TheVariants as lace
use Rattle.lacing.specs.Writing.{CanLace}
use Rattle.block_format.specs.declared.limits.TheConstants.{TOO_LARGE_TIME}
use Rattle.block_format.specs.Block.{Block}
use Rattle.output_model.specs.OutputBlock.{prefixed}
use Rattle.output_model.specs.Sound.{IsSoundBlock}
use Rattle.output_laws.proofs.FrameLemmas.{frames-can}
use Rattle.output_model.specs.Ticks.{since_start, floor_div, tick_of, tick_near, ticks_for, ticks_to}
use Rattle.merge_model.specs.Links.{Placing, lace_for, output_block, delayed, placed_at, placed}
use Rattle.output_laws.specs.Read.{IsReadBlock, IsPlacing, LEAST_SCALE}
use Rattle.lemmas.proofs.PlainLemmas.{abs-add as abs-sum, abs-sub as abs-less}

-- ---- frames

-- One frame needs no lace.
can-alone : (prefix : List ℕ) (frames : List (List ℕ)) (kind : Lace) → CanLace kind (map length (prefixed prefix frames)) → CanLace (lace_for frames kind) (map length (prefixed prefix frames))
can-alone prefix [] kind can = can
can-alone prefix (frame ∷ []) kind can = record { some = can.some; most = can.most; total = can.total; fits = refl }
can-alone prefix (frame ∷ (other ∷ frames)) kind can = can

one-alone : (prefix : List ℕ) (frames : List (List ℕ)) (kind : Lace) → length (prefixed prefix frames) ≡ 1 → lace_for frames kind ≡ lace.None
one-alone prefix [] kind one = absurd (omega arith)
one-alone prefix (frame ∷ []) kind one = refl
one-alone prefix (frame ∷ (other ∷ frames)) kind one = absurd (omega arith)

-- ---- ticks

-- A product grows with its second factor.
factor-le : (x s t : ℕ) → s ≤ t → x * s ≤ x * t
factor-le x s t less =
    let more : t ≡ s + (t - s) = omega arith in
    subst (λ (k : ℕ). x * s ≤ x * k) (sym more) (grown x s (t - s))
  where
    grown : (x s k : ℕ) → x * s ≤ x * (s + k)
    grown x s k = grind arith

-- A tick has at least 1,000 nanoseconds.
quotient : (x s : ℕ) → LEAST_SCALE ≤ s → (x + s / 2) / s ≤ x / 1000 + 2
quotient x s least =
    let q : ℕ = x / 1000 in
    let whole = add-mul q 3 s in
    let first = factor-le q 1000 s least in
    let below : (x + s / 2) / s < q + 3 = div_below (x + s / 2) s (q + 3) (omega arith) (omega arith) in
    omega arith

below-quotient : (x s : ℕ) → LEAST_SCALE ≤ s → x / s ≤ x / 1000 + 2
below-quotient x s least =
    let q : ℕ = x / 1000 in
    let whole = add-mul q 3 s in
    let first = factor-le q 1000 s least in
    let below : x / s < q + 3 = div_below x s (q + 3) (omega arith) (omega arith) in
    omega arith

tick-small : (s t : ℕ) → LEAST_SCALE ≤ s → t < 2 ^ 65 → tick_of s t < 2 ^ 61
tick-small s t least low = let q = quotient t s least in omega arith

-- The tick of a time that may be before the start is small in size.
near-small : (s : ℕ) (z : ℤ) → LEAST_SCALE ≤ s → nat_abs z < 2 ^ 65 → nat_abs (tick_near s z) < 2 ^ 61
near-small s (pos n) least low = tick-small s n least low
near-small s (negsuc n) least low = split (negsuc n +ℤ pos (s / 2)) refl
  where
    split : (w : ℤ) → negsuc n +ℤ pos (s / 2) ≡ w → nat_abs (floor_div w s) < 2 ^ 61
    split (pos m) is =
        let less : m ≤ s / 2 = omega (arith, ints) in
        let below : m / s < 1 = div_below m s 1 (omega arith) (omega arith) in
        omega arith
    split (negsuc m) is =
        let less : m ≤ n = omega (arith, ints) in
        let q = below-quotient m s least in
        omega arith

magnitude-le : (z : ℤ) → magnitude z ≤ nat_abs z
magnitude-le (pos n) = omega arith
magnitude-le (negsuc n) = omega arith

ticks_to-small : (s t : ℕ) (r : ℤ) → LEAST_SCALE ≤ s → t < 2 ^ 64 → nat_abs r < TOO_LARGE_TIME → magnitude (ticks_to s t r) < 2 ^ 63
ticks_to-small s t r least low small =
    let sum = abs-sum (pos t) r in
    let other = near-small s (pos t +ℤ r) least (omega arith) in
    let own = tick-small s t least (omega arith) in
    let less = abs-less (tick_near s (pos t +ℤ r)) (pos (tick_of s t)) in
    let size = magnitude-le (ticks_to s t r) in
    omega arith

references-small : (s t : ℕ) (rs : List ℤ) → LEAST_SCALE ≤ s → t < 2 ^ 64 → All (λ z. nat_abs z < TOO_LARGE_TIME) rs → All (λ ticks. magnitude ticks < 2 ^ 63) (map (ticks_to s t) rs)
references-small s t [] least low small = All-nil (λ ticks. magnitude ticks < 2 ^ 63)
references-small s t (r ∷ rs) least low small =
    All-cons (λ ticks. magnitude ticks < 2 ^ 63) (ticks_to s t r) (map (ticks_to s t) rs)
    (ticks_to-small s t r least low (All-head (λ z. nat_abs z < TOO_LARGE_TIME) r rs small))
    (references-small s t rs least low (All-tail (λ z. nat_abs z < TOO_LARGE_TIME) r rs small))

duration-small : (s t : ℕ) (d : Option ℕ) → LEAST_SCALE ≤ s → t < 2 ^ 64 → IfSome d (λ n. n < TOO_LARGE_TIME) → IfSome (option_map (ticks_for s t) d) (λ ticks. ticks < 2 ^ 63)
duration-small s t None least low small = tt
duration-small s t (Some n) least low small =
    let end = tick-small s (t + n) least (omega arith) in
    omega arith

-- ---- a block

block-sound : (scale t : ℕ) (prefix : List ℕ) (b : Block) → LEAST_SCALE ≤ scale → t < 2 ^ 64 → length prefix ≤ 4096 → IsReadBlock b → IsSoundBlock (output_block scale prefix t b)
block-sound scale t prefix b least low short read =
    let tick = tick-small scale t least (omega arith) in
    record {
      tick = omega arith;
      frames = can-alone prefix b.frames b.lace (frames-can b.lace prefix b.frames read.small.frames short);
      one = one-alone prefix b.frames b.lace;
      simple = λ alone. (let is = read.kind.simple alone in record {
        duration = ap (option_map (ticks_for scale t)) is.duration;
        references = ap (map (ticks_to scale t)) is.references;
        kept = is.kept;
      });
      group = λ grouped. (let is = read.kind.group grouped in record {
        key = is.key ∙ ap (λ n. n == 0) (sym (length-map b.references (ticks_to scale t)));
        discardable = is.discardable;
        duration = duration-small scale t b.duration least low read.small.duration;
        references = references-small scale t b.references least low read.small.references;
        kept = is.kept;
      });
    }

-- A placed block is valid if a reader with limits finds it.
pub placed-sound : (scale : ℕ) (p : Placing) (b : Block) → LEAST_SCALE ≤ scale → IsPlacing p → IsReadBlock b → All IsSoundBlock (placed scale p b)
placed-sound scale p b least is read = split (delayed p b) refl
  where
    since-low : (z : ℤ) (t : ℕ) → since_start z ≡ Some t → t ≡ nat_abs z
    since-low (pos n) t found = sym (ap (λ (o : Option ℕ). unwrapped o) found)
      where
        unwrapped : Option ℕ → ℕ
        unwrapped None = 0
        unwrapped (Some k) = k
    since-low (negsuc n) t found = absurd (cc)

    split : (o : Option ℕ) → delayed p b ≡ o → All IsSoundBlock (placed_at scale p b o)
    split None found = All-nil IsSoundBlock
    split (Some t) found =
        let at = since-low (b.time +ℤ p.delay) t found in
        let sum = abs-sum b.time p.delay in
        let time = read.small.time in
        let delay = is.delay in
        let shift = is.shift in
        All-cons IsSoundBlock (output_block scale p.prefix (t + p.shift) b) [] (block-sound scale (t + p.shift) p.prefix b least (omega arith) is.prefix read) (All-nil IsSoundBlock)
