-- Digits read one by one.
use Rattle.std.proofs.Common.{◌≡◌, ℕ, suc, ◌+◌, ◌-◌, ◌*◌, ◌^◌, ◌<◌, ◌≤◌, Bool, true, false, ◌&&◌, cond, nat_lt, List, [], ◌∷◌, length, drop, get_or, Option, Some, None, refl, subst, arith, le_refl, le_trans, drop-cons}
use Rattle.std.proofs.lemmas.Str.Parse.{digits_value_short}
use Rattle.std.proofs.lemmas.Grind.{common_steps}
use Rattle.std.proofs.lemmas.Bool.Decides.{nat_tests}
use Rattle.std.specs.List.{list_all}
use Rattle.std.specs.Char.{is_ascii_digit, digit_value}
use Rattle.std.specs.Str.Parse.{digits_value, digits_value_after}
use Rattle.requests.specs.Decimal.{below, whole}
use Rattle.lemmas.proofs.PlainLemmas.{decimal-numeral as own}

-- the value of the digits `ds` after digits with value `n`
abbrev pub read_on : ℕ → List ℕ → Option ℕ
read_on n ds = cond (list_all is_ascii_digit ds) (Some (digits_value_after 10 n ds)) None

-- Further digits don't make the number smaller.
pub le-digits : (n : ℕ) (ds : List ℕ) → n ≤ digits_value_after 10 n ds
le-digits n [] = le_refl n
le-digits n (d ∷ ds) =
    let step : n ≤ n * 10 + digit_value d = omega arith in
    le_trans step (le-digits (n * 10 + digit_value d) ds)

pub read_digit : (n d : ℕ) (ds : List ℕ) → is_ascii_digit d ≡ true → read_on n (d ∷ ds) ≡ read_on (n * 10 + digit_value d) ds
read_digit n d ds is = rw is

large_below : (n : ℕ) → 2 ^ 64 ≤ n → (b : Bool) → below (2 ^ 64) (cond b (Some n) None) ≡ None
large_below n large true = grind (arith, nat_tests)
large_below n large false = refl

-- A number that is too large stays too large.
pub read_large : (n : ℕ) (ds : List ℕ) → 2 ^ 64 ≤ n → below (2 ^ 64) (read_on n ds) ≡ None
read_large n ds large = large_below (digits_value_after 10 n ds) (le_trans large (le-digits n ds)) (list_all is_ascii_digit ds)

-- A digit makes the number too large.
pub read_too_large : (n i : ℕ) (word : List ℕ) → i < length word → is_ascii_digit (get_or word i 0) ≡ true → 2 ^ 64 ≤ n * 10 + digit_value (get_or word i 0) → below (2 ^ 64) (read_on n (drop i word)) ≡ None
read_too_large n i word within digit large =
    let d = get_or word i 0 in
    rw (drop-cons word i 0, read_digit n d (drop (suc i) word) digit) (read_large (n * 10 + digit_value d) (drop (suc i) word) large)

-- No digits are left.
pub read_end : (n i : ℕ) (word : List ℕ) → length word ≤ i → n < 2 ^ 64 → below (2 ^ 64) (read_on n (drop i word)) ≡ Some n
read_end n i word past small = let none : drop i word ≡ [] = grind (arith, common_steps) in rw none (grind (arith, nat_tests))

value_cases : (k : ℕ) (ds : List ℕ) (v : ℕ) (some all : Bool) → list_all is_ascii_digit ds ≡ all → cond (some && all) (Some (digits_value 10 ds)) None ≡ Some v → length ds ≤ k → v < 10 ^ k
value_cases k ds v true true is e short = let small : digits_value 10 ds < 10 ^ k = digits_value_short own ds k is short in let same : digits_value 10 ds ≡ v = cc in subst (λ n. n < 10 ^ k) same small
value_cases k ds v true false is e short = cc
value_cases k ds v false all is e short = cc

-- The value of `k` digits is below 10 ^ `k`.
pub whole_small : (k : ℕ) (word : List ℕ) (v : ℕ) → whole word ≡ Some v → length word ≤ k → v < 10 ^ k
unfolding whole
whole_small k word v e short = value_cases k word v (nat_lt 0 (length word)) (list_all is_ascii_digit word) refl e short

below_same : (o : Option ℕ) → ((v : ℕ) → o ≡ Some v → v < 2 ^ 64) → below (2 ^ 64) o ≡ o
below_same None small = refl
below_same (Some v) small = let lt : v < 2 ^ 64 = small v refl in grind (arith, nat_tests)

-- The value of 18 digits fits 64 bits.
pub whole_short : (word : List ℕ) → length word ≤ 18 → below (2 ^ 64) (whole word) ≡ whole word
whole_short word short = below_same (whole word) (λ v e. let small : v < 10 ^ 18 = whole_small 18 word v e short in omega arith)
