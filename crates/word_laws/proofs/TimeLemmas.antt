-- Times, periods of time and identifiers are read back.
use Rattle.std.proofs.Common.{◌≡◌, ◌<◌, ◌^◌, ℕ, zero, suc, ◌+◌, ◌-◌, ◌*◌, ◌/◌, ◌%◌, Bool, true, false, nat_lt, List, [], ◌∷◌, ◌++◌, length, codes, Option, Some, None, IfSome, refl, ap, ◌∙◌, arith, length-append, ◌==◌, ne_eqb, lt-ltb}
use Rattle.std.proofs.Math.Nat.{div-div-eq-div-mul}
use Rattle.std.proofs.lemmas.List.Folds.{list_all-append}
use Rattle.std.proofs.lemmas.Bool.Decides.{nat_tests}
use Rattle.std.proofs.lemmas.Grind.{common_steps}
use Rattle.std.proofs.lemmas.Fmt.{decimal_nonempty}
use Rattle.std.proofs.lemmas.Str.{digit_value-digit_char}
use Rattle.std.proofs.lemmas.Int.Digits.{digits_value_push}
use Rattle.std.specs.List.{list_all}
use Rattle.std.specs.Char.{is_ascii_digit, digit_char}
use Rattle.std.specs.Str.Parse.{digits_value}
use Rattle.std.specs.Fmt.{decimal}
use Rattle.std.proofs.lemmas.Bool.{and_parts}
use Rattle.requests.specs.declared.split.SpanWords.{SpanWords}
use Rattle.word_values.specs.Numbers.{minutes_or_seconds, fraction, seconds, clock, ends, time, is_hex, uuid}
use Rattle.requests.specs.Decimal.{whole}
use Rattle.word_values.specs.Lists.{span, span_of}
use Rattle.requests.specs.Sound.{IsSpan}
use Rattle.mkv_io.specs.Octets.{lacks}
use Rattle.word_laws.specs.Values.{last_digits, time_word, end_word, span_word}
use Rattle.mkv_io.proofs.OctetsLemmas.{decimal_lacks, digits_lack, cut_behind, lacks_both}
use Rattle.word_laws.proofs.NumberLemmas.{whole_read}
use Rattle.word_laws.proofs.ValueLemmas.{digits_end}

-- ---- the last digits of a number
pub last_length : (base k n : ℕ) → length (last_digits base k n) ≡ k
unfolding last_digits
last_length base zero n = refl
last_length base (suc k) n = length-append (last_digits base k (n / base)) (digit_char (n % base) ∷ []) ∙ (let e = last_length base k (n / base) in omega arith)

all_both : (p : ℕ → Bool) (xs : List ℕ) (x : ℕ) → list_all p xs ≡ true → p x ≡ true → list_all p (xs ++ x ∷ []) ≡ true
all_both p xs x all one = list_all-append p xs (x ∷ []) ∙ rw (all, one) refl

ten_digit : (d : ℕ) → d < 10 → is_ascii_digit (digit_char d) ≡ true
ten_digit d small = grind (arith, nat_tests, common_steps)

hex_digit : (d : ℕ) → d < 16 → is_hex (digit_char d) ≡ true
hex_digit d small = let e = digit_value-digit_char d (omega arith) in rw e (grind (arith, nat_tests))

pub last_all : (k n : ℕ) → list_all is_ascii_digit (last_digits 10 k n) ≡ true
unfolding last_digits
last_all zero n = refl
last_all (suc k) n = all_both is_ascii_digit (last_digits 10 k (n / 10)) (digit_char (n % 10)) (last_all k (n / 10)) (ten_digit (n % 10) (omega arith))

hex_all : (k n : ℕ) → list_all is_hex (last_digits 16 k n) ≡ true
unfolding last_digits
hex_all zero n = refl
hex_all (suc k) n = all_both is_hex (last_digits 16 k (n / 16)) (digit_char (n % 16)) (hex_all k (n / 16)) (hex_digit (n % 16) (omega arith))

pub last_value : (k n : ℕ) → n < 10 ^ k → digits_value 10 (last_digits 10 k n) ≡ n
unfolding last_digits
last_value zero n small = omega arith
last_value (suc k) n small =
    let power : 10 ^ suc k ≡ 10 ^ k * 10 = omega arith in
    let less : n / 10 < 10 ^ k = omega arith in
    let one = digit_value-digit_char (n % 10) (omega arith) in
    let front = last_value k (n / 10) less in
    digits_value_push 10 (last_digits 10 k (n / 10)) (digit_char (n % 10)) ∙ rw one (rw front (omega arith))

hex_value : (k n : ℕ) → n < 16 ^ k → digits_value 16 (last_digits 16 k n) ≡ n
unfolding last_digits
hex_value zero n small = omega arith
hex_value (suc k) n small =
    let power : 16 ^ suc k ≡ 16 ^ k * 16 = omega arith in
    let less : n / 16 < 16 ^ k = omega arith in
    let one = digit_value-digit_char (n % 16) (omega arith) in
    let front = hex_value k (n / 16) less in
    digits_value_push 16 (last_digits 16 k (n / 16)) (digit_char (n % 16)) ∙ rw one (rw front (omega arith))

last_whole : (k n : ℕ) → 0 < k → n < 10 ^ k → whole (last_digits 10 k n) ≡ Some n
unfolding whole
last_whole k n some small = rw (last_length 10 k n, lt-ltb 0 k some, last_all k n, last_value k n small) refl

sixtieth_read : (n : ℕ) → n < 60 → minutes_or_seconds (last_digits 10 2 n) ≡ Some n
unfolding minutes_or_seconds
sixtieth_read n small = rw (last_length 10 2 n, last_whole 2 n (omega arith) (omega arith), lt-ltb n 60 small) refl

fraction_read : (n : ℕ) → n < 1000000000 → fraction (last_digits 10 9 n) ≡ Some n
unfolding fraction
fraction_read n small = rw (last_length 10 9 n) (rw (last_whole 9 n (omega arith) (omega arith)) (ap Some (omega arith)))

-- ---- a time
seconds_read : (t : ℕ) → seconds (last_digits 10 2 (t / 1000000000 % 60) ++ (codes "." ++ last_digits 10 9 (t % 1000000000))) ≡ Some (t / 1000000000 % 60 * 1000000000 + t % 1000000000)
unfolding seconds
seconds_read t =
    let s = t / 1000000000 % 60 in
    let f = t % 1000000000 in
    rw (cut_behind 46 (last_digits 10 2 s) (last_digits 10 9 f) (digits_lack 46 (last_digits 10 2 s) refl (last_all 2 s)))
    (rw (sixtieth_read s (omega arith)) (rw (fraction_read f (omega arith)) refl))

time_parts : (t : ℕ) → (t / 3600000000000 * 3600 + t / 60000000000 % 60 * 60) * 1000000000 + (t / 1000000000 % 60 * 1000000000 + t % 1000000000) ≡ t
time_parts t =
    let one : t / 1000000000 / 60 ≡ t / 60000000000 = div-div-eq-div-mul t 1000000000 60 in
    let two : t / 60000000000 / 60 ≡ t / 3600000000000 = div-div-eq-div-mul t 60000000000 60 in
    omega arith

clock_read : (t : ℕ) → t < 2 ^ 63 → clock (time_word t) ≡ Some t
unfolding clock
clock_read t small =
    let h = t / 3600000000000 in
    let m = t / 60000000000 % 60 in
    let rest = last_digits 10 2 (t / 1000000000 % 60) ++ (codes "." ++ last_digits 10 9 (t % 1000000000)) in
    let fits : h < 2 ^ 64 = omega arith in
    rw (cut_behind 58 (decimal h) (last_digits 10 2 m ++ (codes ":" ++ rest)) (decimal_lacks 58 h refl fits))
    (rw (cut_behind 58 (last_digits 10 2 m) rest (digits_lack 58 (last_digits 10 2 m) refl (last_all 2 m)))
    (rw (whole_read h fits) (rw (sixtieth_read m (omega arith)) (rw (seconds_read t) (ap Some (time_parts t))))))

ends_behind : (o : ℕ) (a b : List ℕ) → 0 < length b → ends b o ≡ false → ends (a ++ b) o ≡ false
ends_behind o [] b some none = none
ends_behind o (x ∷ xs) b some none =
    let more = ends_behind o xs b some none in
    let long : 0 < length (xs ++ b) = omega (arith, length-append xs b) in
    later x (xs ++ b) long more
  where
    later : (y : ℕ) (ys : List ℕ) → 0 < length ys → ends ys o ≡ false → ends (y ∷ ys) o ≡ false
    later y [] some none = absurd (omega arith)
    later y (z ∷ zs) some none =
        let full : nat_lt 0 (length (y ∷ z ∷ zs)) ≡ true = grind (arith, nat_tests) in
        let less : nat_lt 0 (length (z ∷ zs)) ≡ true = grind (arith, nat_tests) in
        let one : suc (suc (length zs)) - 1 ≡ suc (suc (length zs) - 1) = omega arith in
        let known = rw less at none in
        rw full (rw one known)

time_ends : (t : ℕ) → ends (time_word t) 115 ≡ false
time_ends t =
    let f = last_digits 10 9 (t % 1000000000) in
    let long = last_length 10 9 (t % 1000000000) in
    let last : ends f 115 ≡ false = digits_end 115 f refl (omega arith) (last_all 9 (t % 1000000000)) in
    let point = ends_behind 115 (codes ".") f (omega arith) last in
    let s = last_digits 10 2 (t / 1000000000 % 60) in
    let second = ends_behind 115 s (codes "." ++ f) (omega arith) point in
    let some_second : 0 < length (s ++ (codes "." ++ f)) = omega (arith, length-append s (codes "." ++ f)) in
    let colon = ends_behind 115 (codes ":") (s ++ (codes "." ++ f)) some_second second in
    let m = last_digits 10 2 (t / 60000000000 % 60) in
    let minute = ends_behind 115 m (codes ":" ++ (s ++ (codes "." ++ f))) (omega arith) colon in
    let some_minute : 0 < length (m ++ (codes ":" ++ (s ++ (codes "." ++ f)))) = omega (arith, length-append m (codes ":" ++ (s ++ (codes "." ++ f)))) in
    let first = ends_behind 115 (codes ":") (m ++ (codes ":" ++ (s ++ (codes "." ++ f)))) some_minute minute in
    ends_behind 115 (decimal (t / 3600000000000)) (codes ":" ++ (m ++ (codes ":" ++ (s ++ (codes "." ++ f))))) (omega arith) first

pub time_read : (t : ℕ) → t < 2 ^ 63 → time (time_word t) ≡ Some t
unfolding time
time_read t small = rw (time_ends t, clock_read t small, lt-ltb t (2 ^ 63) small) refl

pub time_lacks : (o t : ℕ) → t < 2 ^ 63 → is_ascii_digit o ≡ false → (46 == o) ≡ false → (58 == o) ≡ false → lacks o (time_word t) ≡ true
time_lacks o t small other point colon =
    let f = last_digits 10 9 (t % 1000000000) in
    let s = last_digits 10 2 (t / 1000000000 % 60) in
    let m = last_digits 10 2 (t / 60000000000 % 60) in
    let no_point : lacks o (codes ".") ≡ true = rw point refl in
    let no_colon : lacks o (codes ":") ≡ true = rw colon refl in
    let fits : t / 3600000000000 < 2 ^ 64 = omega arith in
    lacks_both o (decimal (t / 3600000000000)) (codes ":" ++ (m ++ (codes ":" ++ (s ++ (codes "." ++ f))))) (decimal_lacks o (t / 3600000000000) other fits)
    (lacks_both o (codes ":") (m ++ (codes ":" ++ (s ++ (codes "." ++ f)))) no_colon
    (lacks_both o m (codes ":" ++ (s ++ (codes "." ++ f))) (digits_lack o m other (last_all 2 (t / 60000000000 % 60)))
    (lacks_both o (codes ":") (s ++ (codes "." ++ f)) no_colon
    (lacks_both o s (codes "." ++ f) (digits_lack o s other (last_all 2 (t / 1000000000 % 60)))
    (lacks_both o (codes ".") f no_point (digits_lack o f other (last_all 9 (t % 1000000000))))))))

time_some : (t : ℕ) → t < 2 ^ 63 → 0 < length (time_word t)
time_some t small =
    let fits : t / 3600000000000 < 2 ^ 64 = omega arith in
    let some = decimal_nonempty (t / 3600000000000) fits in
    omega (arith, length-append (decimal (t / 3600000000000)) (codes ":" ++ (last_digits 10 2 (t / 60000000000 % 60) ++ (codes ":" ++ (last_digits 10 2 (t / 1000000000 % 60) ++ (codes "." ++ last_digits 10 9 (t % 1000000000)))))))

-- ---- a period of time
end_read : (start end : ℕ) (first last : List ℕ) → time first ≡ Some start → time last ≡ Some end → 0 < length last → span_of (first, last) ≡ Some (record { start = start; end = Some end })
end_read start end first [] p q some = absurd (omega arith)
end_read start end first (x ∷ xs) p q some = rw p (rw q refl)

pub span_is_read : (s : SpanWords) → IsSpan s → span (span_word s) ≡ Some s
unfolding span
span_is_read s is =
    rw (cut_behind 45 (time_word s.start) (end_word s.end) (time_lacks 45 s.start is.start refl refl refl)) (cases s.end is.end)
  where
    cases : (e : Option ℕ) → IfSome e (λ t. t < 2 ^ 63) → span_of (time_word s.start, end_word e) ≡ Some (record { start = s.start; end = e })
    cases None small = rw (time_read s.start is.start) refl
    cases (Some e) small = end_read s.start e (time_word s.start) (time_word e) (time_read s.start is.start) (time_read e small) (time_some e small)

pub span_lacks : (s : SpanWords) → IsSpan s → lacks 44 (span_word s) ≡ true
span_lacks s is = lacks_both 44 (time_word s.start) (codes "-" ++ end_word s.end) (time_lacks 44 s.start is.start refl refl refl) (cases s.end is.end)
  where
    cases : (e : Option ℕ) → IfSome e (λ t. t < 2 ^ 63) → lacks 44 (codes "-" ++ end_word e) ≡ true
    cases None small = refl
    cases (Some e) small = time_lacks 44 e small refl refl refl

-- ---- an identifier
pub uuid_read : (u : ℕ) → u < 2 ^ 128 → uuid (last_digits 16 32 u) ≡ Some u
unfolding uuid
uuid_read u small = rw (last_length 16 32 u) (rw (hex_all 32 u) (rw (hex_value 32 u (omega arith)) refl))

hex_lacks : (ds : List ℕ) → list_all is_hex ds ≡ true → lacks 44 ds ≡ true
hex_lacks [] all = refl
hex_lacks (d ∷ ds) all =
    let both = and_parts (is_hex d) (list_all is_hex ds) all in
    let other : (d == 44) ≡ false = ne_eqb d 44 (λ same. let never : is_hex 44 ≡ true = rw same at both.0 in absurd (cc)) in
    rw (other, hex_lacks ds both.1) refl

pub uuid_lacks : (u : ℕ) → lacks 44 (last_digits 16 32 u) ≡ true
uuid_lacks u = hex_lacks (last_digits 16 32 u) (hex_all 32 u)
