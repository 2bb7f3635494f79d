-- Numbers that are written are read back.
use Rattle.std.proofs.Common.{◌≡◌, ℕ, ◌/◌, ◌%◌, ◌^◌, ◌<◌, ◌≤◌, true, nat_lt, length, Some, refl, arith, inl, inr, ltb-true, ltb-false, le-leb, lt-ltb}
use Rattle.std.proofs.lemmas.Grind.{common_steps}
use Rattle.std.proofs.lemmas.Bool.Decides.{nat_tests}
use Rattle.std.proofs.lemmas.Fmt.{decimal_is_IsNumeral, decimal_step, length-decimal-le}
use Rattle.std.specs.List.{list_all}
use Rattle.std.specs.Char.{is_ascii_digit, digit_value}
use Rattle.std.specs.Str.Parse.{digits_value}
use Rattle.std.specs.Fmt.{decimal}
use Rattle.std.proofs.lemmas.Bool.{cases_Bool}
use Rattle.mkv_io.proofs.OctetsLemmas.{decimal_all}
use Rattle.text_formats.specs.Fields.{digits, minutes_or_seconds}
use Rattle.text_formats.specs.Pieces.{digit, two_digits, three_digits, two_or_more}

-- ---- numbers of two and of three digits
pub digit_is : (n : ℕ) → is_ascii_digit (digit n) ≡ true
digit_is n = let small : n % 10 < 10 = omega arith in grind (arith, nat_tests, common_steps)

digit_says : (n : ℕ) → digit_value (digit n) ≡ n % 10
digit_says n = let small : n % 10 < 10 = omega arith in grind (arith, nat_tests, common_steps)

pub two_all : (n : ℕ) → list_all is_ascii_digit (two_digits n) ≡ true
two_all n = rw (digit_is (n / 10), digit_is n) refl

pub three_all : (n : ℕ) → list_all is_ascii_digit (three_digits n) ≡ true
three_all n = rw (digit_is (n / 100), digit_is (n / 10), digit_is n) refl

pub digits_two : (least most n : ℕ) → least ≤ 2 → 2 ≤ most → n < 100 → digits least most (two_digits n) ≡ Some n
unfolding digits
digits_two least most n low high small =
    let same : digits_value 10 (two_digits n) ≡ n = (let p = digit_says (n / 10) in let q = digit_says n in rw (p, q) (omega arith)) in
    rw (le-leb least 2 low, le-leb 2 most high, digit_is (n / 10), digit_is n, same) refl

pub digits_three : (n : ℕ) → n < 1000 → digits 3 3 (three_digits n) ≡ Some n
unfolding digits
digits_three n small =
    let same : digits_value 10 (three_digits n) ≡ n = (let o = digit_says (n / 100) in let p = digit_says (n / 10) in let q = digit_says n in rw (o, p, q) (omega arith)) in
    rw (digit_is (n / 100), digit_is (n / 10), digit_is n, same) refl

pub sixtieth_two : (n : ℕ) → n < 60 → minutes_or_seconds (two_digits n) ≡ Some n
unfolding minutes_or_seconds
sixtieth_two n small = rw (digits_two 2 2 n (omega arith) (omega arith) (omega arith), lt-ltb n 60 small) refl

-- ---- numbers of any width
decimal_long : (n : ℕ) → 10 ≤ n → n < 2 ^ 64 → 2 ≤ length (decimal n)
decimal_long n large small =
    let step = decimal_step n large small in
    let front = (decimal_is_IsNumeral (n / 10) (omega arith)).0.0 in
    rw step (grind (arith, common_steps))

digits_decimal : (n : ℕ) → 10 ≤ n → n < 10000 → digits 2 4 (decimal n) ≡ Some n
unfolding digits
digits_decimal n large small =
    let fits : n < 2 ^ 64 = omega arith in
    let short = length-decimal-le 4 n (omega arith) (omega arith) fits in
    rw (le-leb 2 (length (decimal n)) (decimal_long n large fits), le-leb (length (decimal n)) 4 short, decimal_all n fits, (decimal_is_IsNumeral n fits).1) refl

-- A number of at least two digits.
pub digits_padded : (n : ℕ) → n < 10000 → digits 2 4 (two_or_more n) ≡ Some n
digits_padded n small = elim (cases_Bool (nat_lt n 100)) [
  | inl is ↦ rw is (digits_two 2 4 n (omega arith) (omega arith) (ltb-true n 100 is))
  | inr is ↦ rw is (digits_decimal n (omega (arith, ltb-false n 100 is)) small)
]

pub padded_all : (n : ℕ) → n < 2 ^ 64 → list_all is_ascii_digit (two_or_more n) ≡ true
padded_all n small = elim (cases_Bool (nat_lt n 100)) [ inl is ↦ rw is (two_all n) | inr is ↦ rw is (decimal_all n small) ]
