-- Laws on the bytes of decimal digits, and on `lacks` and `cut`.
use Rattle.std.proofs.Common.{◌≡◌, ℕ, suc, ◌+◌, ◌^◌, ◌<◌, Bool, true, false, not, nat_lt, List, [], ◌∷◌, ◌++◌, length, take, drop, Some, refl, ◌∙◌, arith, eqb-true}
use Rattle.std.proofs.lemmas.Bool.{and_parts, not-true}
use Rattle.std.proofs.lemmas.Grind.{common_steps}
use Rattle.std.proofs.lemmas.Bool.Decides.{nat_tests}
use Rattle.std.proofs.lemmas.Fmt.{decimal_is_IsNumeral}
use Rattle.std.proofs.lemmas.List.Folds.{list_all-append}
use Rattle.std.specs.Prelude.{◌==◌, slice_index}
use Rattle.std.specs.List.{list_all, position_or_len}
use Rattle.std.specs.Char.{is_ascii_digit, digit_value}
use Rattle.std.specs.Str.Parse.{AllDigits}
use Rattle.std.specs.Fmt.{decimal}
use Rattle.mkv_io.specs.Octets.{cut, lacks}

-- ---- values of digits
value_digit : (c : ℕ) → digit_value c < 10 → is_ascii_digit c ≡ true
value_digit c small = grind (arith, nat_tests, common_steps)

all_digits : (ds : List ℕ) → AllDigits 10 ds → list_all is_ascii_digit ds ≡ true
all_digits [] all = refl
all_digits (c ∷ cs) all = rw (value_digit c all.0, all_digits cs all.1) refl

pub decimal_all : (n : ℕ) → n < 2 ^ 64 → list_all is_ascii_digit (decimal n) ≡ true
decimal_all n small = all_digits (decimal n) (decimal_is_IsNumeral n small).0.1

-- ---- a digit differs from each byte that isn't a digit
pub digit_is_not : (o b : ℕ) → is_ascii_digit o ≡ false → is_ascii_digit b ≡ true → (b == o) ≡ false
digit_is_not o b other is = split (b == o) refl
  where
    split : (c : Bool) → (b == o) ≡ c → (b == o) ≡ false
    split true same = let e : b ≡ o = eqb-true b o same in absurd (cc)
    split false same = same

-- If a text doesn't contain the byte `o`, neither its first byte nor the rest does.
pub lacks_parts : (o b : ℕ) (bs : List ℕ) → lacks o (b ∷ bs) ≡ true → ((b == o) ≡ false) × (lacks o bs ≡ true)
lacks_parts o b bs none = let parts = and_parts (not (b == o)) (lacks o bs) none in (not-true (b == o) parts.0, parts.1)

-- A text made of two texts without the byte `o` doesn't contain `o`.
pub lacks_both : (o : ℕ) (a b : List ℕ) → lacks o a ≡ true → lacks o b ≡ true → lacks o (a ++ b) ≡ true
lacks_both o a b p q = list_all-append (λ c. not (c == o)) a b ∙ rw (p, q) refl

pub digits_lack : (o : ℕ) (ds : List ℕ) → is_ascii_digit o ≡ false → list_all is_ascii_digit ds ≡ true → lacks o ds ≡ true
digits_lack o [] other all = refl
digits_lack o (b ∷ bs) other all =
    let parts = and_parts (is_ascii_digit b) (list_all is_ascii_digit bs) all in
    rw (digit_is_not o b other parts.0, digits_lack o bs other parts.1) refl

pub decimal_lacks : (o n : ℕ) → is_ascii_digit o ≡ false → n < 2 ^ 64 → lacks o (decimal n) ≡ true
decimal_lacks o n other small = digits_lack o (decimal n) other (decimal_all n small)

-- A nonempty text of digits, followed by anything, doesn't begin with a byte that isn't a digit.
pub first_other : (o : ℕ) (ds rest : List ℕ) → is_ascii_digit o ≡ false → 0 < length ds → list_all is_ascii_digit ds ≡ true → (slice_index (ds ++ rest) 0 == o) ≡ false
first_other o [] rest other some all = absurd (omega arith)
first_other o (d ∷ ds) rest other some all = digit_is_not o d other (and_parts (is_ascii_digit d) (list_all is_ascii_digit ds) all).0

-- ---- the parts before and after the first byte of a kind
same_octet : (o : ℕ) → (o == o) ≡ true
same_octet o = grind (arith, nat_tests)

first_at : (o : ℕ) (w rest : List ℕ) → lacks o w ≡ true → position_or_len (λ b. b == o) (w ++ (o ∷ rest)) ≡ length w
first_at o [] rest none = rw (same_octet o) refl
first_at o (b ∷ bs) rest none =
    let parts = lacks_parts o b bs none in
    let r = first_at o bs rest parts.1 in
    rw (parts.0, r) (omega arith)

drop_behind : (w : List ℕ) (o : ℕ) (rest : List ℕ) → drop (length w + 1) (w ++ (o ∷ rest)) ≡ rest
drop_behind [] o rest = refl
drop_behind (b ∷ bs) o rest = let e : suc (length bs) + 1 ≡ suc (length bs + 1) = omega arith in rw e (drop_behind bs o rest)

pub cut_behind : (o : ℕ) (w rest : List ℕ) → lacks o w ≡ true → cut o (w ++ (o ∷ rest)) ≡ Some (w, rest)
unfolding cut
cut_behind o w rest none =
    let at = first_at o w rest none in
    let within : nat_lt (length w) (length (w ++ (o ∷ rest))) ≡ true = grind (arith, nat_tests, common_steps) in
    let front : take (length w) (w ++ (o ∷ rest)) ≡ w = grind (arith, common_steps) in
    let back : drop (length w + 1) (w ++ (o ∷ rest)) ≡ rest = drop_behind w o rest in
    rw (at, within, front, back) refl
