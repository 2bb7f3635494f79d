-- The bytes of a Duration are read back as the float that was written.
use Rattle.std.proofs.Common.{◌≡◌, ℕ, suc, pos, ◌+◌, ◌-◌, ◌*◌, ◌/◌, ◌%◌, ◌^◌, ◌<◌, ◌≤◌, false, not, T, [], append-nil, refl, sym, ap, ap₂, ◌∙◌, subst, inl, inr, arith, leb→le, eqb→eq, le_trans, le_of_eq, lt_of_lt_of_le, lt_of_le_of_lt, mod-lt, div-add-mod', div-one, div-lt_iff_lt-mul, mul-le-mul_right, mul_comm, mul_assoc, mul-one, one-mul, suc-mul, add-mul, mul_right_comm, pow_pos, pow_mono, pow-add, shl_lt, zero, eqb, add-zero}
use Rattle.std.proofs.lemmas.Bool.{cases_lt}
use Rattle.std.proofs.Math.Nat.{eq_of_mul-eq-mul_right}
use Rattle.std.specs.Float.{Float, Format, binary64, nan, inf, fin}
use Rattle.std.specs.Float.Ieee.{of_int, to_bits, of_bits}
use Prim.Native.Nat.{compare, Ordering}
use lib.Arith.{lt_of_le-ne}
use lib.Pow.{pow-lt}
use lib.Dec.{is_le, compare_is_eq, nleb→lt, eqb_refl}
use lib.Ieee.{prec, emax, low, up, down, size, nearest, round}
use lib.Ieee.Back.{round_whole}
use lib.Ieee.Bits.{of_bits-to_bits, to_bits-lt}
use lib.Ieee.Digits.{size-lt, size-le}
use lib.Ieee.Exact.{HasValue}
use lib.Ieee.Fits.{of_int-fits, nearest-le}
use lib.Ieee.Nearest.{closest, closest_same}
use lib.Ieee.Order.{drop, kept}
use lib.Ieee.Scale.{round_val, grid, overflow}
use Rattle.byteorder.specs.Endian.{big_bytes, big_number}
use Rattle.byteorder.specs.Numbers.{big_number-reads_back}
use Rattle.output_model.specs.Duration.{float_octets}
use Rattle.duration_laws.specs.Floats.{float_in, IsExactly, IsNearest, IsNearestFloat}

-- ---- the bytes

-- The bytes hold the bits of the float.
float-read : (n : ℕ) → float_in (float_octets n) ≡ of_int binary64 (pos n)
float-read n =
    let v : Float = of_int binary64 (pos n) in
    let bits : ℕ = to_bits binary64 v in
    let low : bits < 256 ^ 8 = to_bits-lt binary64 v (of_int-fits binary64 (pos n)) in
    let bytes : big_number 8 (big_bytes 8 bits) ≡ bits = ap (big_number 8) (sym (append-nil (big_bytes 8 bits))) ∙ big_number-reads_back 8 bits [] low in
    ap (of_bits binary64) bytes ∙ of_bits-to_bits binary64 v (of_int-fits binary64 (pos n))

pub short-exact : (n : ℕ) → n ≤ 2 ^ 53 → IsExactly (float_in (float_octets n)) n
unfolding of_int
short-exact n short = subst (λ (x : Float). IsExactly x n) (sym (float-read n)) (round_whole binary64 false n short)

-- ---- the nearest multiple

-- Two numbers are in the order that a comparison returns.
abbrev AreInOrder : Ordering → ℕ → ℕ → Type 0
AreInOrder Ordering.lt a b = a < b
AreInOrder Ordering.eq a b = a ≡ b
AreInOrder Ordering.gt a b = b < a

in-order : (a b : ℕ) → AreInOrder (compare a b) a b
in-order a b = split (compare a b) (leb→le a b) (nleb→lt a b) (eqb→eq a b) (λ same. subst (λ (x : ℕ). T (eqb a x)) same (eqb_refl a))
  where
    split : (o : Ordering) → (T (is_le o) → a ≤ b) → (T (not (is_le o)) → b < a) → (T (compare_is_eq o) → a ≡ b) → (a ≡ b → T (compare_is_eq o)) → AreInOrder o a b
    split Ordering.lt most over same other = lt_of_le-ne (most tt) other
    split Ordering.eq most over same other = same tt
    split Ordering.gt most over same other = over tt

-- The number `n` has the quotient `q` by `unit`, and the rest `r`. The result of the comparison decides between the multiples on both sides.
nearest-is : (unit n q r : ℕ) (o : Ordering) → n ≡ q * unit + r → r < unit → AreInOrder o (r * 2) unit → IsNearest unit n (nearest q o)
nearest-is unit n q r Ordering.lt sum small less =
    record { above = omega arith; below = omega arith; even = λ tie. elim tie [ inl more ↦ absurd (omega arith) | inr fewer ↦ absurd (omega arith) ] }
nearest-is unit n q r Ordering.eq sum small same = tied (q % 2) refl
  where
    tied : (p : ℕ) → q % 2 ≡ p → IsNearest unit n (q + p)
    tied zero is = let whole : (q + 0) * unit ≡ q * unit = ap (λ x. x * unit) (add-zero q) in record { above = omega arith; below = omega arith; even = λ tie. omega arith }
    tied (suc zero) is = let whole : (q + 1) * unit ≡ q * unit + unit = add-mul q 1 unit ∙ ap (λ x. q * unit + x) (one-mul unit) in record { above = omega arith; below = omega arith; even = λ tie. omega arith }
    tied (suc (suc p)) is = absurd (omega arith)
nearest-is unit n q r Ordering.gt sum small more =
    let whole : suc q * unit ≡ q * unit + unit = suc-mul q unit in
    record { above = omega arith; below = omega arith; even = λ tie. elim tie [ inl over ↦ absurd (omega arith) | inr fewer ↦ absurd (omega arith) ] }

closest-is : (n unit : ℕ) → 0 < unit → IsNearest unit n (closest n unit)
closest-is n unit some = nearest-is unit n (n / unit) (n % unit) (compare (n % unit * 2) unit) (sym (div-add-mod' n unit)) (mod-lt n some) (in-order (n % unit * 2) unit)

-- ---- the rounded number

-- A float with the value `v * l / l` has the value `v`.
reduced : (x : Float) (v l : ℕ) → 0 < l → HasValue x false (v * l) l → HasValue x false v 1
reduced nan v l some is = absurd is
reduced (inf s) v l some is = absurd is
reduced (fin s m e) v l some is = (is.0, eq_of_mul-eq-mul_right l some (m * up e * 1) (v * down e) (ap (λ x. x * l) (mul-one (m * up e)) ∙ is.1 ∙ mul_right_comm v l (down e)))

-- A number of `b` binary digits has exactly that size.
size-is : (n b : ℕ) → 2 ^ b ≤ n → n < 2 ^ (b + 1) → size n ≡ b + 1
size-is n b least most =
    let over : size n ≤ b + 1 = size-le n (b + 1) most in
    elim (cases_lt b (size n)) [
      | inl more ↦ omega arith
      | inr fewer ↦ (let under : n < 2 ^ b = lt_of_lt_of_le (size-lt n) (pow_mono fewer) in absurd (omega arith))
    ]

-- The number `n` has e + 1 bits, `k` more than a float can hold. Its float is the nearest multiple of 2^k.
rounded : (f : Format) (e k n : ℕ) → prec f + k ≡ e + 1 → e < emax f → 2 ^ e ≤ n → n < 2 ^ (e + 1) → HasValue (round f false n 1) false (closest n (2 ^ k) * 2 ^ k) 1
rounded f e k n bits low_e least most =
    let l : ℕ = low f in
    let c : ℕ = closest n (2 ^ k) in
    let units : ℕ = n * 2 ^ l in
    let from : 2 ^ (e + l) ≤ units = le_trans (le_of_eq (pow-add 2 e l)) (mul-le-mul_right (2 ^ l) least) in
    let exponent : e + 1 + l ≡ e + l + 1 = omega arith in
    let to : units < 2 ^ (e + l + 1) = subst (λ (x : ℕ). units < 2 ^ x) exponent (shl_lt (e + 1) l most) in
    let bits_of : size (units / 1) ≡ e + l + 1 = ap size (div-one units) ∙ size-is units (e + l) from to in
    let dropped : drop (prec f) units 1 ≡ k + l = ap (λ x. x - prec f) bits_of ∙ omega arith in
    let scaled : units * 2 ^ k ≡ n * (1 * 2 ^ (k + l)) =
    mul_assoc n (2 ^ l) (2 ^ k) ∙ ap (λ x. n * x) (mul_comm (2 ^ l) (2 ^ k) ∙ sym (pow-add 2 k l) ∙ sym (one-mul (2 ^ (k + l)))) in
    let some : 0 < 1 * 2 ^ (k + l) = subst (λ (x : ℕ). 0 < x) (sym (one-mul (2 ^ (k + l)))) (pow_pos (k + l)) in
    let keeps : kept (prec f) units 1 ≡ c = ap (λ j. closest units (1 * 2 ^ j)) dropped ∙ closest_same units (1 * 2 ^ (k + l)) n (2 ^ k) some (pow_pos k) scaled in
    let whole : grid f n 1 ≡ c * 2 ^ k * 2 ^ l = ap₂ (λ x j. x * 2 ^ j) keeps dropped ∙ ap (λ x. c * x) (pow-add 2 k l) ∙ sym (mul_assoc c (2 ^ k) (2 ^ l)) in
    let power : 2 ^ prec f * 2 ^ k ≡ 2 ^ (e + 1) = sym (pow-add 2 (prec f) k) ∙ ap (λ x. 2 ^ x) bits in
    let quotient : n / 2 ^ k < 2 ^ prec f = (div-lt_iff_lt-mul (pow_pos k)).1 (subst (λ (x : ℕ). n < x) (sym power) most) in
    let few : c ≤ 2 ^ prec f = le_trans (nearest-le (n / 2 ^ k) (compare (n % 2 ^ k * 2) (2 ^ k))) quotient in
    let bound : c * 2 ^ k * 2 ^ l ≤ 2 ^ (e + 1 + l) =
    le_trans (mul-le-mul_right (2 ^ l) (le_trans (mul-le-mul_right (2 ^ k) few) (le_of_eq power))) (le_of_eq (sym (pow-add 2 (e + 1) l))) in
    let under : grid f n 1 < overflow f = lt_of_le_of_lt (le_of_eq whole) (lt_of_le_of_lt bound (pow-lt (omega arith))) in
    reduced (round f false n 1) (c * 2 ^ k) (2 ^ l) (pow_pos l) (subst (λ (x : ℕ). HasValue (round f false n 1) false x (2 ^ l)) whole (round_val f n 1 under))

pub long-nearest : (e n : ℕ) → 53 ≤ e → e < 64 → 2 ^ e ≤ n → n < 2 ^ (e + 1) → IsNearestFloat e n (float_in (float_octets n))
unfolding of_int
long-nearest e n long short least most =
    let unit : ℕ = 2 ^ (e - 52) in
    record {
      times = closest n unit;
      value = subst (λ (x : Float). IsExactly x (closest n unit * unit)) (sym (float-read n)) (rounded binary64 e (e - 52) n (omega arith) (omega arith) least most);
      nearest = closest-is n unit (pow_pos (e - 52));
    }
