-- Lines without times.
use Rattle.std.proofs.Common.{◌≡◌, ℕ, ◌+◌, ◌<◌, Bool, true, false, ◌&&◌, cond, nat_lt, nat_le, List, [], ◌∷◌, length, take, drop, Option, Some, None, refl, arith}
use Rattle.std.proofs.lemmas.Grind.{common_steps}
use Rattle.std.proofs.lemmas.Bool.Decides.{nat_tests}
use Rattle.std.specs.Prelude.{◌==◌, option_and_then}
use Rattle.std.specs.List.{list_all, prefix_len, position_or_len}
use Rattle.std.specs.Char.{is_ascii_digit}
use Rattle.mkv_io.specs.Octets.{cut}
use Rattle.text_formats.specs.Fields.{digits, minutes_or_seconds}
use Rattle.text_formats.specs.Times.{seconds, is_blank, clock, times, is_number}

none_behind : (o : Option ℕ) (f : ℕ → Option ℕ) → ((n : ℕ) → f n ≡ None) → option_and_then f o ≡ None
none_behind None f none = refl
none_behind (Some n) f none = none n

-- Three digits don't fit.
digits_short : (word : List ℕ) → length word < 3 → digits 3 3 word ≡ None
unfolding digits
digits_short word short = let a : nat_le 3 (length word) ≡ false = grind (arith, nat_tests) in rw a refl

pub seconds_short : (word : List ℕ) → length word < 6 → seconds word ≡ None
unfolding seconds
seconds_short word short =
    let less : length (take 3 (drop 3 word)) < 3 = grind (arith, common_steps) in
    let none : digits 3 3 (take 3 (drop 3 word)) ≡ None = digits_short (take 3 (drop 3 word)) less in
    none_behind (minutes_or_seconds (take 2 word)) _ (λ n. rw none refl)

-- ---- a number line has no colon
pub digit_no_colon : (b : ℕ) → is_ascii_digit b ≡ true → (b == 58) ≡ false
digit_no_colon b is = grind (arith, nat_tests, common_steps)

blank_no_colon : (b : ℕ) → is_blank b ≡ true → (b == 58) ≡ false
blank_no_colon b is = grind (arith, nat_tests, common_steps)

abbrev pub is_colon : ℕ → Bool
is_colon b = b == 58

blanks_cases : (b : ℕ) (bs : List ℕ) (c : Bool) → is_blank b ≡ c → (c && list_all is_blank bs) ≡ true →
    (list_all is_blank bs ≡ true → position_or_len is_colon bs ≡ length bs) → position_or_len is_colon (b ∷ bs) ≡ length (b ∷ bs)
blanks_cases b bs true is all rest = let e = blank_no_colon b is in let r = rest all in rw (e, r) (omega arith)
blanks_cases b bs false is all rest = absurd (cc)

blanks_no_colon : (bs : List ℕ) → list_all is_blank bs ≡ true → position_or_len is_colon bs ≡ length bs
blanks_no_colon [] all = refl
blanks_no_colon (b ∷ bs) all = blanks_cases b bs (is_blank b) refl all (λ h. blanks_no_colon bs h)

number_cases : (b : ℕ) (bs : List ℕ) (c : Bool) → is_ascii_digit b ≡ c → list_all is_blank (drop (cond c (1 + prefix_len is_ascii_digit bs) 0) (b ∷ bs)) ≡ true →
    (list_all is_blank (drop (prefix_len is_ascii_digit bs) bs) ≡ true → position_or_len is_colon bs ≡ length bs) → position_or_len is_colon (b ∷ bs) ≡ length (b ∷ bs)
number_cases b bs true is all rest =
    let e = digit_no_colon b is in
    let same : drop (1 + prefix_len is_ascii_digit bs) (b ∷ bs) ≡ drop (prefix_len is_ascii_digit bs) bs = grind (arith, common_steps) in
    let h = rw same at all in
    let r = rest h in rw (e, r) (omega arith)
number_cases b bs false is all rest = blanks_no_colon (b ∷ bs) all

number_no_colon : (bs : List ℕ) → list_all is_blank (drop (prefix_len is_ascii_digit bs) bs) ≡ true → position_or_len is_colon bs ≡ length bs
number_no_colon [] all = refl
number_no_colon (b ∷ bs) all = number_cases b bs (is_ascii_digit b) refl all (λ h. number_no_colon bs h)

cut_none : (bs : List ℕ) → position_or_len is_colon bs ≡ length bs → cut 58 bs ≡ None
unfolding cut
cut_none bs e = let no : nat_lt (position_or_len is_colon bs) (length bs) ≡ false = grind (arith, nat_tests) in rw no refl

times_none : (bs : List ℕ) → cut 58 bs ≡ None → times bs ≡ None
unfolding times clock
times_none bs e = rw e refl

parts_true : (a b c : Bool) → (a && b && c) ≡ true → c ≡ true
parts_true true true c e = e
parts_true true false c e = absurd (cc)
parts_true false b c e = absurd (cc)

-- A number line isn't a time line.
pub number_no_times : (line : List ℕ) → is_number line ≡ true → times line ≡ None
unfolding is_number
number_no_times line is =
    let n = prefix_len is_ascii_digit line in
    let all : list_all is_blank (drop n line) ≡ true = parts_true (nat_le 1 n) (nat_le n 9) (list_all is_blank (drop n line)) is in
    times_none line (cut_none line (number_no_colon line all))
