-- Digits read one by one.
use Rattle.std.proofs.Common.{◌≡◌, ℕ, zero, suc, ◌+◌, ◌-◌, ◌*◌, ◌^◌, ◌<◌, ◌≤◌, true, false, cond, nat_lt, List, length, Option, Some, None, option_map, sym, ap, arith, le_refl}
use Rattle.std.proofs.Math.Nat.{mul-lt-mul_of_pos_right, pow-le-pow_right}
use Rattle.std.proofs.lemmas.Nat.{pow-add}
use Rattle.std.proofs.lemmas.Bool.Decides.{nat_tests}
use Rattle.std.proofs.lemmas.Str.Pattern.{IsSplitOnceResult, split_once_first}
use Rattle.std.specs.List.{list_all, position_or_len}
use denote.Ref.{Bor}
use lib.Dec.{eqb}
use Rattle.std.specs.Str.Parse.{digits_value_after}
use Rattle.mkv_io.specs.Octets.{cut}
use Rattle.word_values.specs.Numbers.{is_hex}
use Rattle.requests.specs.Decimal.{below, whole}
use Rattle.requests.proofs.DecimalLemmas.{whole_small}

ten_positive : (k : ℕ) → 0 < 10 ^ k
ten_positive zero = omega arith
ten_positive (suc k) = let below : 0 < 10 ^ k = ten_positive k in omega arith

-- Up to nine digits after a point are less than one.
pub fraction_small : (word : List ℕ) (v : ℕ) → whole word ≡ Some v → length word ≤ 9 → v * 10 ^ (9 - length word) < 1000000000
fraction_small word v e short =
    let n = length word in
    let small : v < 10 ^ n = whole_small n word v e (le_refl n) in
    let positive : 0 < 10 ^ (9 - n) = ten_positive (9 - n) in
    let scaled : v * 10 ^ (9 - n) < 10 ^ n * 10 ^ (9 - n) = mul-lt-mul_of_pos_right small positive in
    let joined : 10 ^ n * 10 ^ (9 - n) ≡ 10 ^ (n + (9 - n)) = sym (pow-add 10 n (9 - n)) in
    let nine : n + (9 - n) ≡ 9 = omega arith in
    let power : 10 ^ (n + (9 - n)) ≡ 10 ^ 9 = ap (λ k. 10 ^ k) nine in
    omega (arith, scaled, joined, power)

-- the value of the hexadecimal digits `ds` after digits with value `n`
abbrev pub hex_on : ℕ → List ℕ → Option ℕ
hex_on n ds = cond (list_all is_hex ds) (Some (digits_value_after 16 n ds)) None

-- The value of `i + 1` hexadecimal digits is below 16 ^ (`i` + 1).
pub hex_more : (v i d : ℕ) → v < 16 ^ i → d < 16 → v * 16 + d < 16 ^ (i + 1)
hex_more v i d small digit = let power : 16 ^ (i + 1) ≡ 16 ^ i * 16 ^ 1 = pow-add 16 i 1 in omega (arith, power)

-- 32 hexadecimal digits fit 128 bits.
pub hex_fits : (v i d : ℕ) → v < 16 ^ i → i < 32 → d < 16 → v * 16 + d < 2 ^ 128
hex_fits v i d small within digit =
    let positive : 0 < 16 = omega arith in
    let most : 16 ^ (i + 1) ≤ 16 ^ 32 = pow-le-pow_right positive {i = i + 1} {j = 32} (omega arith) in
    omega (arith, hex_more v i d small digit, most)

-- The result of splitting a text at a character is the definition's.
pub cut_split : (c : ℕ) (bs : List ℕ) (r : Option (Bor (List ℕ) × Bor (List ℕ))) → IsSplitOnceResult c bs r → c < 128 →
    option_map {U = List ℕ × List ℕ} (λ (p : Bor (List ℕ) × Bor (List ℕ)). (p.0.now, p.1.now)) r ≡ cut c bs
unfolding cut
cut_split c bs None clause ascii =
    let past : position_or_len (λ b. eqb b c) bs ≡ length bs = split_once_first c bs None clause ascii in
    let no : nat_lt (position_or_len (λ b. eqb b c) bs) (length bs) ≡ false = grind (arith, nat_tests) in
    rw no
cut_split c bs (Some p) clause ascii =
    let parts = split_once_first c bs (Some p) clause ascii in
    let yes : nat_lt (position_or_len (λ b. eqb b c) bs) (length bs) ≡ true = grind (arith, nat_tests, parts.0) in
    rw (yes, parts.1, parts.2)
