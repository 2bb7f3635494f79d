-- A written block that is read is written as it was.
use Rattle.std.proofs.Common.{◌≡◌, ℕ, zero, suc, ◌+◌, ◌-◌, ◌*◌, ◌/◌, ◌<◌, ◌≤◌, ℤ, pos, negsuc, List, [], ◌∷◌, ◌++◌, length, map, Option, Some, None, refl, sym, ap, ap₂, ◌∙◌, arith}
use Rattle.std.specs.Prelude.{◌+ℤ◌, ◌-ℤ◌, ◌*ℤ◌}
use Rattle.std.specs.Option.{option_map}
use Rattle.std.proofs.Math.Nat.{add-mul}
use Rattle.std.proofs.Math.IntN.{suc_ℤ, suc_ℤ-*ℤ, zero-*ℤ}
use Rattle.std.proofs.lemmas.Int.{ints}
use Rattle.std.proofs.lemmas.Nat.{div-mul-add}
use Rattle.lacing.specs.declared.kind.Lace.{Lace}
use Rattle.lacing.specs.declared.kind.Lace.TheVariants as lace
use Rattle.block_format.specs.Block.{Block, nanoseconds}
use Rattle.output_model.specs.OutputBlock.{OutputBlock}
use Rattle.output_model.specs.Sound.{IsSoundBlock}
use Rattle.output_laws.specs.Places.{block_in_place}
use Rattle.output_model.specs.Ticks.{since_start, floor_div, tick_of, tick_near, ticks_for, ticks_to}
use Rattle.merge_model.specs.Links.{lace_for, output_block, delayed, placed_at, placed}
use Rattle.merge_model.specs.Merged.{in_lane}
use Rattle.output_laws.specs.Lanes.{as_it_stands}

half : (s : ℕ) → 1 ≤ s → s / 2 < s
half s some = omega arith

-- ---- whole ticks

tick-whole : (s n : ℕ) → 1 ≤ s → tick_of s (n * s) ≡ n
tick-whole s n some = div-mul-add n s (s / 2) (half s some)

-- The tick nearest to a whole number of ticks, which may be before the start, is this number.
near-whole : (s : ℕ) (z : ℤ) → 1 ≤ s → tick_near s (z *ℤ pos s) ≡ z
near-whole s (pos n) some = ap (λ k. pos k) (tick-whole s n some)
near-whole s (negsuc n) some =
    let m : ℕ = n * s + (s - 1) in
    let h : ℕ = s / 2 in
    let more : suc n ≡ n + 1 = omega arith in
    let product : suc n * s ≡ suc m = ap (λ (k : ℕ). k * s) more ∙ add-mul n 1 s ∙ omega arith in
    let low = half s some in
    ap (λ (k : ℕ). floor_div (neg k +ℤ pos h) s) product
    ∙ ap (λ (z : ℤ). floor_div z s) (less m h (omega arith))
    ∙ ap (λ k. negsuc k) (ap (λ (k : ℕ). k / s) (rest m h (omega arith) low) ∙ div-mul-add n s (s - 1 - h) (omega arith))
  where
    neg : ℕ → ℤ
    neg zero = pos zero
    neg (suc k) = negsuc k

    less : (m h : ℕ) → h ≤ m → negsuc m +ℤ pos h ≡ negsuc (m - h)
    less m h below = omega (arith, ints)

    rest : (m h : ℕ) → m ≡ n * s + (s - 1) → h < s → m - h ≡ n * s + (s - 1 - h)
    rest m h is low = omega arith

-- ---- from one time to another

suc_ℤ-is : (z : ℤ) → suc_ℤ z ≡ z +ℤ pos 1
suc_ℤ-is (pos n) = omega (arith, ints)
suc_ℤ-is (negsuc zero) = refl
suc_ℤ-is (negsuc (suc n)) = omega (arith, ints)

suc_ℤ-add : (t : ℕ) (r : ℤ) → suc_ℤ (pos t +ℤ r) ≡ pos (suc t) +ℤ r
suc_ℤ-add t r = suc_ℤ-is (pos t +ℤ r) ∙ omega (arith, ints)

from_zero : (z : ℤ) → pos 0 +ℤ z ≡ z
from_zero z = omega (arith, ints)

swap : (a b c : ℤ) → (a +ℤ b) +ℤ c ≡ (a +ℤ c) +ℤ b
swap a b c = omega (arith, ints)

-- The scaled sum of ticks.
scaled-sum : (s t : ℕ) (r : ℤ) → (pos t *ℤ pos s) +ℤ (r *ℤ pos s) ≡ (pos t +ℤ r) *ℤ pos s
scaled-sum s zero r = ap (λ (a : ℤ). a +ℤ (r *ℤ pos s)) (zero-*ℤ (pos s)) ∙ from_zero (r *ℤ pos s) ∙ ap (λ (a : ℤ). a *ℤ pos s) (sym (from_zero r))
scaled-sum s (suc t) r =
    ap (λ (a : ℤ). a +ℤ (r *ℤ pos s)) (suc_ℤ-*ℤ (pos t) (pos s))
    ∙ swap (pos t *ℤ pos s) (pos s) (r *ℤ pos s)
    ∙ ap (λ (a : ℤ). a +ℤ pos s) (scaled-sum s t r)
    ∙ sym (suc_ℤ-*ℤ (pos t +ℤ r) (pos s))
    ∙ ap (λ (a : ℤ). a *ℤ pos s) (suc_ℤ-add t r)

less_itself : (t : ℕ) (r : ℤ) → (pos t +ℤ r) -ℤ pos t ≡ r
less_itself t r = omega (arith, ints)

ticks_to-whole : (s t : ℕ) (r : ℤ) → 1 ≤ s → ticks_to s (t * s) (nanoseconds s r) ≡ r
ticks_to-whole s t r some =
    ap₂ (λ (a b : ℤ). a -ℤ b) (ap (tick_near s) (scaled-sum s t r) ∙ near-whole s (pos t +ℤ r) some) (ap (λ k. pos k) (tick-whole s t some)) ∙ less_itself t r

references-whole : (s t : ℕ) (rs : List ℤ) → 1 ≤ s → map (ticks_to s (t * s)) (map (nanoseconds s) rs) ≡ rs
references-whole s t [] some = refl
references-whole s t (r ∷ rs) some = ap₂ (λ v vs. v ∷ vs) (ticks_to-whole s t r some) (references-whole s t rs some)

ticks_for-whole : (s t n : ℕ) → 1 ≤ s → ticks_for s (t * s) (n * s) ≡ n
ticks_for-whole s t n some =
    ap₂ (λ (a b : ℕ). a - b) (ap (tick_of s) (sym (add-mul t n s)) ∙ tick-whole s (t + n) some) (tick-whole s t some) ∙ omega arith

duration-whole : (s t : ℕ) (d : Option ℕ) → 1 ≤ s → option_map (ticks_for s (t * s)) (option_map (λ n. n * s) d) ≡ d
duration-whole s t None some = refl
duration-whole s t (Some n) some = ap (λ (k : ℕ). Some k) (ticks_for-whole s t n some)

-- ---- a block

lace-whole : (frames : List (List ℕ)) (kind : Lace) → (length frames ≡ 1 → kind ≡ lace.None) → lace_for frames kind ≡ kind
lace-whole [] kind alone = refl
lace-whole (frame ∷ []) kind alone = sym (alone refl)
lace-whole (frame ∷ (other ∷ frames)) kind alone = refl

nothing-in_front : (frames : List (List ℕ)) → map (λ frame. [] ++ frame) frames ≡ frames
nothing-in_front [] = refl
nothing-in_front (frame ∷ frames) = ap (λ fs. frame ∷ fs) (nothing-in_front frames)

block-again : (scale place : ℕ) (b : OutputBlock) → 1 ≤ scale → IsSoundBlock b → output_block scale [] (b.tick * scale) (block_in_place scale place b) ≡ in_lane 0 b
block-again scale place b some sound =
    let tick = tick-whole scale b.tick some in
    let duration = duration-whole scale b.tick b.duration some in
    let references = references-whole scale b.tick b.references some in
    let kind = lace-whole b.frames b.lace sound.one in
    let frames = nothing-in_front b.frames in
    λ i. record {
      lane = 0;
      tick = tick i;
      key = b.key;
      invisible = b.invisible;
      discardable = b.discardable;
      group = b.group;
      lace = kind i;
      frames = frames i;
      duration = duration i;
      references = references i;
      kept = b.kept;
    }

-- A written block that is read is written as it was.
pub placed-again : (scale place : ℕ) (b : OutputBlock) → 1 ≤ scale → IsSoundBlock b → placed scale as_it_stands (block_in_place scale place b) ≡ in_lane 0 b ∷ []
placed-again scale place b some sound =
    let read : Block = block_in_place scale place b in
    let time : delayed as_it_stands read ≡ Some (b.tick * scale) = ap since_start (no_delay (b.tick * scale)) in
    let shift : b.tick * scale + 0 ≡ b.tick * scale = omega arith in
    ap (placed_at scale as_it_stands read) time
    ∙ ap (λ t. output_block scale [] t read ∷ []) shift
    ∙ ap (λ x. x ∷ []) (block-again scale place b some sound)
  where
    no_delay : (t : ℕ) → pos t +ℤ pos 0 ≡ pos t
    no_delay t = omega (arith, ints)
