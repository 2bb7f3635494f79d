-- Times in ticks.
use Rattle.std.proofs.Common.{◌≡◌, ℕ, suc, ◌+◌, ◌-◌, ◌*◌, ◌/◌, ◌%◌, ◌<◌, ◌≤◌, Bool, true, false, if◌then◌else◌, refl, sym, ◌∙◌, ap, arith}
use Rattle.std.specs.Prelude.{nat_le, nat_abs, ◌^◌, ℤ, pos, negsuc, ◌+ℤ◌, ◌-ℤ◌, ◌≤ℤ◌, ◌<ℤ◌}
use mir.Val.{to_z, of_z}
use mir.Syntax.{w64}
use Rattle.std.proofs.lemmas.Int.{to_z_pos}
use Rattle.std.proofs.lemmas.Nat.{div_below, div-add-mod'}
use Rattle.std.proofs.lemmas.Bool.{leb-true, leb-false}
use Rattle.std.proofs.lemmas.Int.{ints}
use Rattle.output_model.specs.Ticks.{floor_div, tick_of, ticks_for, ticks_to}
use Rattle.lanes.specs.Times.{most_time, ticks_before, ticks_back}

-- Adding `r` adds at most `r` to the quotient.
pub div-more : (x r s : ℕ) → 0 < s → (x + r) / s ≤ x / s + r
div-more x r s some =
    let split : x / s * s + x % s ≡ x = div-add-mod' x s in
    let rest : x % s < s = omega arith in
    let much : r ≤ r * s = grind arith in
    let below : x + r < (x / s + r + 1) * s = omega (arith, split, rest, much) in
    let less : (x + r) / s < x / s + r + 1 = div_below (x + r) s (x / s + r + 1) some below in
    omega arith

pub div-le : (x s : ℕ) → 0 < s → x / s ≤ x
div-le x s some = let more : (0 + x) / s ≤ 0 / s + x = div-more 0 x s some in let none : 0 / s ≡ 0 = grind arith in let same : 0 + x ≡ x = omega arith in let e : (0 + x) / s ≡ x / s = ap (λ (n : ℕ). n / s) same in omega arith

-- A time rounded to ticks is at most half a tick later.
below-rounded : (s t most : ℕ) → t < most → tick_of s t * s ≤ most + s / 2
below-rounded s t most less =
    let split : (t + s / 2) / s * s + (t + s / 2) % s ≡ t + s / 2 = div-add-mod' (t + s / 2) s in
    omega (arith, split, less)

pub tick-early : (s t : ℕ) → t < most_time → tick_of s t * s ≤ most_time + s / 2
tick-early s t less = below-rounded s t most_time less

-- A smaller number has a smaller quotient.
pub div-rises : (x y s : ℕ) → 0 < s → x ≤ y → x / s ≤ y / s
div-rises x y s some le = grind arith

pub ticks_before-small : (s from size : ℕ) → 0 < s → ticks_before s from size ≤ size
ticks_before-small s from size some = step (nat_le size from) refl
  where
    step : (is : Bool) → nat_le size from ≡ is → (if is then from / s - (from - size) / s else from / s + (size - from - 1) / s + 1) ≤ size
    step true is =
        let le : size ≤ from = leb-true size from is in
        let same : (from - size) + size ≡ from = omega arith in
        let whole : ((from - size) + size) / s ≡ from / s = ap (λ (n : ℕ). n / s) same in
        let more : ((from - size) + size) / s ≤ (from - size) / s + size = div-more (from - size) size s some in
        omega arith
    step false is =
        let lt : from < size = leb-false size from is in
        let first : from / s ≤ from = div-le from s some in
        let next : (size - from - 1) / s ≤ size - from - 1 = div-le (size - from - 1) s some in
        omega arith

pub ticks_for-small : (s t d : ℕ) → 0 < s → ticks_for s t d ≤ d
ticks_for-small s t d some =
    let same : (t + s / 2) + d ≡ t + d + s / 2 = omega arith in
    let whole : ((t + s / 2) + d) / s ≡ (t + d + s / 2) / s = ap (λ (n : ℕ). n / s) same in
    let more : ((t + s / 2) + d) / s ≤ (t + s / 2) / s + d = div-more (t + s / 2) d s some in
    omega arith

pub ticks_to-forward : (s t r : ℕ) → 0 < s → ticks_to s t (pos r) ≡ pos (ticks_for s t r)
ticks_to-forward s t r some =
    let rises : (t + s / 2) / s ≤ (t + r + s / 2) / s = div-rises (t + s / 2) (t + r + s / 2) s some (omega arith) in
    omega (arith, ints)

pub ticks_to-back : (s t n : ℕ) → 0 < s → ticks_to s t (negsuc n) ≡ pos 0 -ℤ pos (ticks_back s t (suc n))
ticks_to-back s t n some = step (nat_le (suc n) (t + s / 2)) refl
  where
    step : (is : Bool) → nat_le (suc n) (t + s / 2) ≡ is → ticks_to s t (negsuc n) ≡ pos 0 -ℤ pos (if is then (t + s / 2) / s - (t + s / 2 - suc n) / s else (t + s / 2) / s + (suc n - (t + s / 2) - 1) / s + 1)
    step true is =
        let le : suc n ≤ t + s / 2 = leb-true (suc n) (t + s / 2) is in
        let z : pos t +ℤ negsuc n +ℤ pos (s / 2) ≡ pos (t + s / 2 - suc n) = omega (arith, ints) in
        let rises : (t + s / 2 - suc n) / s ≤ (t + s / 2) / s = div-rises (t + s / 2 - suc n) (t + s / 2) s some (omega arith) in
        let e : pos ((t + s / 2 - suc n) / s) -ℤ pos ((t + s / 2) / s) ≡ pos 0 -ℤ pos ((t + s / 2) / s - (t + s / 2 - suc n) / s) = omega (arith, ints) in
        ap (λ (each : ℤ). floor_div each s -ℤ pos ((t + s / 2) / s)) z ∙ e
    step false is =
        let lt : t + s / 2 < suc n = leb-false (suc n) (t + s / 2) is in
        let z : pos t +ℤ negsuc n +ℤ pos (s / 2) ≡ negsuc (suc n - (t + s / 2) - 1) = omega (arith, ints) in
        let e : negsuc ((suc n - (t + s / 2) - 1) / s) -ℤ pos ((t + s / 2) / s) ≡ pos 0 -ℤ pos ((t + s / 2) / s + (suc n - (t + s / 2) - 1) / s + 1) = omega (arith, ints) in
        ap (λ (each : ℤ). floor_div each s -ℤ pos ((t + s / 2) / s)) z ∙ e

pub ruleset small = (ticks_before-small, ticks_for-small)

pub ruleset few = (tick-early)

-- The distance forwards, with a sign, as the code has it.

pub forward : (s t : ℕ) (away : ℤ) (n : ℕ) → 0 < s → pos 0 ≤ℤ away → nat_abs away < 2 ^ 56 → n ≡ ticks_for s t (nat_abs away) → to_z w64 n ≡ ticks_to s t away
forward s t (pos r) n some sign small is =
    let few : n ≤ r = let le : ticks_for s t r ≤ r = ticks_for-small s t r some in omega arith in
    to_z_pos w64 n (omega arith) ∙ ap pos is ∙ sym (ticks_to-forward s t r some)
forward s t (negsuc r) n some sign small is = absurd (omega (arith, ints))

pub backward : (s t : ℕ) (away : ℤ) (n : ℕ) → 0 < s → away <ℤ pos 0 → nat_abs away < 2 ^ 56 → n ≡ ticks_back s t (nat_abs away) → to_z w64 (of_z w64 (pos 0 -ℤ to_z w64 n)) ≡ ticks_to s t away
backward s t (pos r) n some sign small is = absurd (omega (arith, ints))
backward s t (negsuc r) n some sign small is =
    let few : n ≤ suc r = let le : ticks_back s t (suc r) ≤ suc r = ticks_before-small s (t + s / 2) (suc r) some in omega arith in
    let here : to_z w64 (of_z w64 (pos 0 -ℤ to_z w64 n)) ≡ pos 0 -ℤ pos n = omega (arith, ints) in
    here ∙ ap (λ (k : ℕ). pos 0 -ℤ pos k) is ∙ sym (ticks_to-back s t r some)
