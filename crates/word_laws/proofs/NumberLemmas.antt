-- Numbers in decimal digits are read back.
use Rattle.std.proofs.Common.{◌≡◌, ℕ, ◌^◌, ◌<◌, ◌≤◌, List, length, Some, refl, arith, le-leb, lt-ltb}
use Rattle.std.proofs.lemmas.Fmt.{decimal_is_IsNumeral, decimal_nonempty, length-decimal-le}
use Rattle.std.specs.Fmt.{decimal}
use Rattle.mkv_io.proofs.OctetsLemmas.{decimal_all, decimal_lacks, cut_behind}
use Rattle.requests.specs.Decimal.{whole, number}
use Rattle.word_values.specs.Values.{track_and_rest}
use Rattle.word_laws.specs.Values.{HasFewDigits, with_number}

-- ---- single numbers
pub whole_read : (n : ℕ) → n < 2 ^ 64 → whole (decimal n) ≡ Some n
unfolding whole
whole_read n small = rw (lt-ltb 0 (length (decimal n)) (decimal_nonempty n small), decimal_all n small, (decimal_is_IsNumeral n small).1) refl

pub short_fits : (n : ℕ) → HasFewDigits n → n < 2 ^ 64
short_fits n short = omega arith

pub short_length : (n : ℕ) → HasFewDigits n → length (decimal n) ≤ 18
short_length n short = length-decimal-le 18 n (omega arith) short (short_fits n short)

pub number_read : (n : ℕ) → HasFewDigits n → number (decimal n) ≡ Some n
unfolding number
number_read n short = rw (le-leb (length (decimal n)) 18 (short_length n short)) (whole_read n (short_fits n short))

-- ---- a number and the value after it
pub numbered_read : (n : ℕ) (rest : List ℕ) → HasFewDigits n → track_and_rest (with_number n rest) ≡ Some (n, rest)
unfolding track_and_rest
numbered_read n rest short =
    rw (cut_behind 58 (decimal n) rest (decimal_lacks 58 n refl (short_fits n short)), number_read n short) refl
