-- A timestamp that is written is read back.
use Rattle.std.proofs.Common.{◌≡◌, ℕ, suc, ◌+◌, ◌*◌, ◌/◌, ◌%◌, ◌^◌, ◌<◌, ◌≤◌, ℤ, pos, negsuc, nat_abs, Bool, true, false, not, ◌&&◌, cond, nat_lt, nat_le, List, [], ◌∷◌, ◌++◌, length, Some, None, refl, ◌∙◌, ap, arith}
use Rattle.std.proofs.Math.Nat.{pow-le-pow_right, div-div-eq-div-mul}
use Rattle.std.proofs.lemmas.Grind.{common_steps}
use Rattle.std.proofs.lemmas.Bool.Decides.{nat_tests}
use Rattle.std.proofs.lemmas.Fmt.{decimal_digit, decimal_nonempty, decimal_is_IsNumeral, length-decimal-le}
use Rattle.std.specs.Prelude.{◌==◌, codes, slice_index}
use Rattle.std.specs.List.{list_all, position_or_len}
use Rattle.std.specs.Char.{is_ascii_digit, digit_value}
use Rattle.std.specs.Str.Parse.{digits_value}
use Rattle.std.specs.Fmt.{decimal}
use Rattle.mkv_io.specs.Octets.{cut, lacks}
use Rattle.text_formats.specs.Fields.{digits}
use Rattle.mkv_io.proofs.OctetsLemmas.{digits_lack, cut_behind, decimal_all, lacks_both, decimal_lacks, first_other}
use Rattle.record_laws.proofs.LineLemmas.{lacks_more}
use Rattle.ext_times.specs.Fields.{fraction, millionths, time_size, time}
use Rattle.extractors.specs.Times.{six_digits, milliseconds, sign}

-- ---- whole numbers
digits_whole : (most n : ℕ) → 0 < most → most ≤ 18 → n < 10 ^ most → digits 1 most (decimal n) ≡ Some n
unfolding digits
digits_whole most n some few small =
    let ten : 0 < 10 = omega arith in
    let limit : 10 ^ most ≤ 10 ^ 18 = pow-le-pow_right ten {i = most} {j = 18} few in
    let fits : n < 2 ^ 64 = omega arith in
    let low : nat_le 1 (length (decimal n)) ≡ true = (let h = decimal_nonempty n fits in grind (arith, nat_tests)) in
    let high : nat_le (length (decimal n)) most ≡ true = (let h = length-decimal-le most n some small fits in grind (arith, nat_tests)) in
    rw (low, high, decimal_all n fits, (decimal_is_IsNumeral n fits).1) refl

-- ---- six digits
glyph : (d : ℕ) → d < 10 → is_ascii_digit (48 + d) ≡ true
glyph d small = grind (arith, nat_tests, common_steps)

says : (d : ℕ) → d < 10 → digit_value (48 + d) ≡ d
says d small = grind (arith, nat_tests, common_steps)

abbrev glyphs : (a b c d e f : ℕ) → List ℕ
glyphs a b c d e f = (48 + a) ∷ (48 + b) ∷ (48 + c) ∷ (48 + d) ∷ (48 + e) ∷ (48 + f) ∷ []

-- The six numbers are digits below ten.
pub record AreDigits (a b c d e f : ℕ) : Type 0 where
  pub first : a < 10
  pub second : b < 10
  pub third : c < 10
  pub fourth : d < 10
  pub fifth : e < 10
  pub sixth : f < 10

glyphs_all : (a b c d e f : ℕ) → AreDigits a b c d e f → list_all is_ascii_digit (glyphs a b c d e f) ≡ true
glyphs_all a b c d e f are = rw (glyph a are.first, glyph b are.second, glyph c are.third, glyph d are.fourth, glyph e are.fifth, glyph f are.sixth) refl

glyphs_say : (a b c d e f : ℕ) → AreDigits a b c d e f → digits_value 10 (glyphs a b c d e f) ≡ ((((a * 10 + b) * 10 + c) * 10 + d) * 10 + e) * 10 + f
glyphs_say a b c d e f are = rw (says a are.first, says b are.second, says c are.third, says d are.fourth, says e are.fifth, says f are.sixth) (omega arith)

-- The digits of a number below 1,000,000.
pub record Six (r : ℕ) : Type 0 where
  pub are : AreDigits (r / 100000) (r / 10000 % 10) (r / 1000 % 10) (r / 100 % 10) (r / 10 % 10) (r % 10)
  pub whole : (((((r / 100000) * 10 + r / 10000 % 10) * 10 + r / 1000 % 10) * 10 + r / 100 % 10) * 10 + r / 10 % 10) * 10 + r % 10 ≡ r

six : (r : ℕ) → r < 1000000 → Six r
six r small =
    let two : r / 10 / 10 ≡ r / 100 = div-div-eq-div-mul r 10 10 in
    let three : r / 100 / 10 ≡ r / 1000 = div-div-eq-div-mul r 100 10 in
    let four : r / 1000 / 10 ≡ r / 10000 = div-div-eq-div-mul r 1000 10 in
    let five : r / 10000 / 10 ≡ r / 100000 = div-div-eq-div-mul r 10000 10 in
    record {
      are = record { first = omega arith; second = omega arith; third = omega arith; fourth = omega arith; fifth = omega arith; sixth = omega arith };
      whole = omega arith;
    }

six_is : (r : ℕ) → AreDigits (r / 100000) (r / 10000 % 10) (r / 1000 % 10) (r / 100 % 10) (r / 10 % 10) (r % 10)
    → six_digits r ≡ glyphs (r / 100000) (r / 10000 % 10) (r / 1000 % 10) (r / 100 % 10) (r / 10 % 10) (r % 10)
six_is r are =
    rw (decimal_digit (r / 100000) are.first, decimal_digit (r / 10000 % 10) are.second, decimal_digit (r / 1000 % 10) are.third, decimal_digit (r / 100 % 10) are.fourth, decimal_digit (r / 10 % 10) are.fifth, decimal_digit (r % 10) are.sixth)
    refl

six_all : (r : ℕ) → r < 1000000 → list_all is_ascii_digit (six_digits r) ≡ true
six_all r small = let s = six r small in rw (six_is r s.are) (glyphs_all _ _ _ _ _ _ s.are)

fraction_six : (r : ℕ) → r < 1000000 → fraction (six_digits r) ≡ Some r
unfolding fraction digits
fraction_six r small =
    let s = six r small in
    let all = glyphs_all _ _ _ _ _ _ s.are in
    let value = glyphs_say _ _ _ _ _ _ s.are ∙ s.whole in
    rw (six_is r s.are, all, value) (ap Some (omega arith))

-- ---- milliseconds
lacks_at : (o : ℕ) (w : List ℕ) → lacks o w ≡ true → position_or_len (λ b. b == o) w ≡ length w
lacks_at o [] none = refl
lacks_at o (b ∷ bs) none = split (b == o) refl none (λ h. lacks_at o bs h)
  where
    split : (c : Bool) → (b == o) ≡ c → (not c && lacks o bs) ≡ true → (lacks o bs ≡ true → position_or_len (λ d. d == o) bs ≡ length bs) → position_or_len (λ d. d == o) (b ∷ bs) ≡ length (b ∷ bs)
    split true is none more = absurd (cc)
    split false is none more = let r = more none in rw (is, r) (omega arith)

cut_none : (o : ℕ) (w : List ℕ) → lacks o w ≡ true → cut o w ≡ None
unfolding cut
cut_none o w none = let e = lacks_at o w none in let no : nat_lt (position_or_len (λ b. b == o) w) (length w) ≡ false = grind (arith, nat_tests) in rw no refl

size_written : (n : ℕ) → n < 2 ^ 57 → time_size (milliseconds n) ≡ Some n
unfolding time_size millionths
size_written n small = split (n % 1000000 == 0) refl
  where
    split : (b : Bool) → (n % 1000000 == 0) ≡ b → time_size (cond b (decimal (n / 1000000)) (decimal (n / 1000000) ++ (codes "." ++ six_digits (n % 1000000)))) ≡ Some n
    split true is =
        let whole : n / 1000000 * 1000000 ≡ n = grind (arith, nat_tests) in
        let few : n / 1000000 < 10 ^ 12 = omega arith in
        let alone = cut_none 46 (decimal (n / 1000000)) (decimal_lacks 46 (n / 1000000) refl (omega arith)) in
        let below : nat_lt n (2 ^ 57) ≡ true = grind (arith, nat_tests) in
        rw (alone, digits_whole 12 (n / 1000000) (omega arith) (omega arith) few, whole, below) refl
    split false is =
        let whole : n / 1000000 * 1000000 + n % 1000000 ≡ n = omega arith in
        let few : n / 1000000 < 10 ^ 12 = omega arith in
        let parts = cut_behind 46 (decimal (n / 1000000)) (six_digits (n % 1000000)) (decimal_lacks 46 (n / 1000000) refl (omega arith)) in
        let below : nat_lt n (2 ^ 57) ≡ true = grind (arith, nat_tests) in
        rw parts (rw (digits_whole 12 (n / 1000000) (omega arith) (omega arith) few) (rw (fraction_six (n % 1000000) (omega arith)) (rw (whole, below) refl)))

-- ---- a timestamp
-- the digits after the whole milliseconds
abbrev tail_of : Bool → ℕ → List ℕ
tail_of b n = cond b [] (codes "." ++ six_digits (n % 1000000))

in_parts : (b : Bool) (n : ℕ) → cond b (decimal (n / 1000000)) (decimal (n / 1000000) ++ (codes "." ++ six_digits (n % 1000000))) ≡ decimal (n / 1000000) ++ tail_of b n
in_parts true n = grind (arith, common_steps)
in_parts false n = refl

-- The first byte is a digit.
pub size_first : (o n : ℕ) → is_ascii_digit o ≡ false → n < 2 ^ 57 → (slice_index (milliseconds n) 0 == o) ≡ false
size_first o n other small =
    let b = n % 1000000 == 0 in
    let some = decimal_nonempty (n / 1000000) (omega arith) in
    rw (in_parts b n) (first_other o (decimal (n / 1000000)) (tail_of b n) other some (decimal_all (n / 1000000) (omega arith)))

pub size_some : (n : ℕ) → n < 2 ^ 57 → 0 < length (milliseconds n)
size_some n small =
    let b = n % 1000000 == 0 in
    let some = decimal_nonempty (n / 1000000) (omega arith) in
    rw (in_parts b n) (grind (arith, common_steps))

tail_lacks : (o : ℕ) (b : Bool) (n : ℕ) → is_ascii_digit o ≡ false → (46 == o) ≡ false → lacks o (tail_of b n) ≡ true
tail_lacks o true n other point = refl
tail_lacks o false n other point = lacks_more o 46 (six_digits (n % 1000000)) point (digits_lack o (six_digits (n % 1000000)) other (six_all (n % 1000000) (omega arith)))

pub size_lacks : (o n : ℕ) → is_ascii_digit o ≡ false → (46 == o) ≡ false → n < 2 ^ 57 → lacks o (milliseconds n) ≡ true
size_lacks o n other point small =
    let b = n % 1000000 == 0 in
    rw (in_parts b n) (lacks_both o (decimal (n / 1000000)) (tail_of b n) (decimal_lacks o (n / 1000000) other (omega arith)) (tail_lacks o b n other point))

-- the bytes of a line without its end
abbrev pub words : ℤ → List ℕ
words t = sign t ++ milliseconds (nat_abs t)

pub time_written : (t : ℤ) → nat_abs t < 2 ^ 57 → time (words t) ≡ Some t
unfolding time
time_written (pos n) small = rw (size_first 45 n refl small, size_written n small) refl
time_written (negsuc n) small = rw (size_written (suc n) small) refl

pub words_lack : (o : ℕ) (t : ℤ) → is_ascii_digit o ≡ false → (46 == o) ≡ false → (45 == o) ≡ false → nat_abs t < 2 ^ 57 → lacks o (words t) ≡ true
words_lack o (pos n) other point minus small = size_lacks o n other point small
words_lack o (negsuc n) other point minus small = lacks_more o 45 (milliseconds (suc n)) minus (size_lacks o (suc n) other point small)

pub words_some : (t : ℤ) → nat_abs t < 2 ^ 57 → 0 < length (words t)
words_some (pos n) small = size_some n small
words_some (negsuc n) small = omega arith

pub words_first : (t : ℤ) → nat_abs t < 2 ^ 57 → (slice_index (words t) 0 == 35) ≡ false
words_first (pos n) small = size_first 35 n refl small
words_first (negsuc n) small = refl
