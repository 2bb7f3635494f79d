-- Names of parts.
use Rattle.std.proofs.Common.{◌≡◌, ◌≢◌, ℕ, zero, suc, ◌+◌, ◌-◌, ◌%◌, ◌<◌, ◌≤◌, ◌^◌, Bool, true, false, not, ◌&&◌, ◌||◌, eqb, get_or, List, [], ◌∷◌, ◌++◌, length, take, drop, refl, sym, ◌∙◌, ap, ap₂, append-nil, arith, String, Global}
use Rattle.std.specs.Prelude.{if◌then◌else◌, replicate, nat_eq, codes, Some, None}
use Rattle.std.specs.List.{list_all, list_any}
use Rattle.std.specs.Cmp.Lexicographic.{pointwise}
use Rattle.std.proofs.Math.Nat.{sub-zero}
use Rattle.std.proofs.Math.Seq.{take-length, drop-length, take-append_seam, drop-append_seam}
use Rattle.std.proofs.lemmas.List.{length-drop, length-append, length-replicate}
use Rattle.std.proofs.lemmas.List.Folds.{list_all-append}
use Rattle.std.proofs.lemmas.Fmt.{decimal_by_steps, decimal_is_IsNumeral}
use Rattle.std.specs.Str.Parse.{digits_value}
use Rattle.std.specs.Fmt.{char_count, decimal, format_spec, padded_integral}
use Rattle.std.specs.Char.{is_ascii_digit}
use Rattle.std.specs.Option.{option_and_then, option_map_or}
use Rattle.std.specs.String.{string_bytes}
use Rattle.std.proofs.lemmas.Bool.{and_right, eq-eqb, le-leb, ne_eqb, or_parts, or_right}
use Rattle.splitter.specs.Laws.{PartNamesAre, PartNamesDiffer}
use Rattle.splitter.specs.Names.{are_digits, before, behind, extension, is_plain, number_in, part_name, stem, stem_len, three_digits}

-- ---- start of the extension

-- The bytes have no point.
abbrev pub NoPoint : List ℕ → Type 0
NoPoint bs = (i : ℕ) → i < length bs → get_or bs i 0 ≢ 46

abbrev pub has_slash : List ℕ → Bool
has_slash bs = list_any (λ b. eqb b 47) bs

no-point-more : (b : ℕ) (bs : List ℕ) → NoPoint (b ∷ bs) → NoPoint bs
no-point-more b bs none i inside = none (suc i) (omega arith)

no-point-here : (b : ℕ) (bs : List ℕ) → NoPoint (b ∷ bs) → eqb b 46 ≡ false
no-point-here b bs none = ne_eqb b 46 (none 0 (omega arith))

plain-by : (a b rest : Bool) → a ≡ false → b ≡ false → rest ≡ true → (not (a || b) && rest) ≡ true
plain-by a b rest p q r = rw p (rw q r)

plain : (bs : List ℕ) → NoPoint bs → has_slash bs ≡ false → list_all is_plain bs ≡ true
plain [] none slash = refl
plain (b ∷ bs) none slash =
    let parts = or_parts (eqb b 47) (has_slash bs) slash in
    plain-by (eqb b 46) (eqb b 47) (list_all is_plain bs) (no-point-here b bs none) parts.0 (plain bs (no-point-more b bs none) parts.1)

point-isnt-plain : (bs : List ℕ) (k : ℕ) → k < length bs → get_or bs k 0 ≡ 46 → list_all is_plain bs ≡ false
point-isnt-plain [] k inside here = absurd (omega arith)
point-isnt-plain (b ∷ bs) zero inside here = ap (λ (q : Bool). not (q || eqb b 47) && list_all is_plain bs) (eq-eqb b 46 here)
point-isnt-plain (b ∷ bs) (suc k) inside here = ap (λ q. is_plain b && q) (point-isnt-plain bs k (omega arith) here) ∙ and_right (is_plain b) false refl

slash-by : (a b slash rest : Bool) → (b || slash) ≡ true → (slash ≡ true → rest ≡ false) → (not (a || b) && rest) ≡ false
slash-by true b slash rest some more = refl
slash-by false true slash rest some more = refl
slash-by false false slash rest some more = more some

slash-isnt-plain : (bs : List ℕ) → has_slash bs ≡ true → list_all is_plain bs ≡ false
slash-isnt-plain [] slash = absurd (cc)
slash-isnt-plain (b ∷ bs) slash = slash-by (eqb b 46) (eqb b 47) (has_slash bs) (list_all is_plain bs) slash (slash-isnt-plain bs)

slash-behind : (bs : List ℕ) (k : ℕ) → has_slash (drop k bs) ≡ true → has_slash bs ≡ true
slash-behind [] k slash = slash-none k slash
  where
    slash-none : (k : ℕ) → has_slash (drop k []) ≡ true → false ≡ true
    slash-none zero slash = slash
    slash-none (suc k) slash = slash
slash-behind (b ∷ bs) zero slash = slash
slash-behind (b ∷ bs) (suc k) slash = or_right (eqb b 47) (has_slash bs) (slash-behind bs k slash)

-- An extension doesn't begin at a byte before another point or `/`.
no-begin : (b : ℕ) (bs : List ℕ) → list_all is_plain bs ≡ false → stem_len (b ∷ bs) ≡ suc (stem_len bs)
no-begin b bs isnt = ap (λ q. if q then 0 else suc (stem_len bs)) (ap (λ q. eqb b 46 && q) isnt ∙ and_right (eqb b 46) false refl)

no-point-begins : (b : ℕ) (bs : List ℕ) → eqb b 46 ≡ false → stem_len (b ∷ bs) ≡ suc (stem_len bs)
no-point-begins b bs isnt = ap (λ (q : Bool). if q && list_all is_plain bs then 0 else suc (stem_len bs)) isnt

-- The extension begins at the last point if no `/` follows.
pub stem-at : (bs : List ℕ) (k : ℕ) → k < length bs → get_or bs k 0 ≡ 46 → ((i : ℕ) → k < i → i < length bs → get_or bs i 0 ≢ 46) → has_slash (drop k bs) ≡ false → stem_len bs ≡ k
stem-at [] k inside here last slash = absurd (omega arith)
stem-at (b ∷ bs) zero inside here last slash =
    let none : NoPoint bs = λ i within. last (suc i) (omega arith) (omega arith) in
    let parts = or_parts (eqb b 47) (has_slash bs) slash in
    ap₂ (λ (p q : Bool). if p && q then 0 else suc (stem_len bs)) (eq-eqb b 46 here) (plain bs none parts.1)
stem-at (b ∷ bs) (suc k) inside here last slash =
    no-begin b bs (point-isnt-plain bs k (omega arith) here)
    ∙ ap suc (stem-at bs k (omega arith) here (λ i behind within. last (suc i) (omega arith) (omega arith)) slash)

-- Without a point there is no extension.
pub stem-none : (bs : List ℕ) → NoPoint bs → stem_len bs ≡ length bs
stem-none [] none = refl
stem-none (b ∷ bs) none = no-point-begins b bs (no-point-here b bs none) ∙ ap suc (stem-none bs (no-point-more b bs none))

-- If a `/` follows the last point, there is no extension.
pub stem-slash : (bs : List ℕ) (k : ℕ) → k < length bs → get_or bs k 0 ≡ 46 → ((i : ℕ) → k < i → i < length bs → get_or bs i 0 ≢ 46) → has_slash (drop k bs) ≡ true → stem_len bs ≡ length bs
stem-slash [] k inside here last slash = absurd (omega arith)
stem-slash (b ∷ bs) zero inside here last slash =
    let none : NoPoint bs = λ i within. last (suc i) (omega arith) (omega arith) in
    no-begin b bs (slash-isnt-plain bs (past b here slash)) ∙ ap suc (stem-none bs none)
  where
    past : (b : ℕ) → b ≡ 46 → has_slash (b ∷ bs) ≡ true → has_slash bs ≡ true
    past b here slash = rw here at slash
stem-slash (b ∷ bs) (suc k) inside here last slash =
    no-begin b bs (slash-isnt-plain bs (slash-behind bs k slash))
    ∙ ap suc (stem-slash bs k (omega arith) here (λ i behind within. last (suc i) (omega arith) (omega arith)) slash)

-- The search for a `/` looks at the bytes after a place.
pub slash-told : (name bs : List ℕ) (k : ℕ) (told : Bool) → bs ≡ name → told ≡ list_any (λ b. eqb b 47) (take (length bs - k) (drop k bs)) → has_slash (drop k name) ≡ told
slash-told name bs k told same is =
    let long : length (drop k bs) ≡ length bs - k = length-drop k bs in
    sym (is ∙ ap has_slash (ap (λ n. take n (drop k bs)) (sym long) ∙ take-length (drop k bs)) ∙ ap (λ xs. has_slash (drop k xs)) same)

-- A name without an extension is its stem.
pub whole-stem : (name : List ℕ) → stem_len name ≡ length name → name ≡ stem name
whole-stem name is = sym (ap (λ k. take k name) is ∙ take-length name)

pub whole-extension : (name : List ℕ) → stem_len name ≡ length name → [] ≡ extension name
whole-extension name is = sym (ap (λ k. drop k name) is ∙ drop-length name)

-- ---- digits

pub padded-three : (n : ℕ) → padded_integral (format_spec 32 0 4 3 (2 ^ 64 - 1)) false [] (decimal n) ≡ three_digits n
unfolding padded_integral char_count
padded-three n = simp (sub-zero, append-nil) refl

-- The name is the one that was written.
pub written-name : (output stem' extension' digits : List ℕ) (text : String Global) (number : ℕ) (name : List ℕ)
    → digits ≡ padded_integral (format_spec 32 0 4 3 (2 ^ 64 - 1)) false [] (decimal number) → stem' ≡ stem output → extension' ≡ extension output
    → string_bytes text ≡ stem' ++ (45 ∷ (digits ++ extension')) → name ≡ string_bytes text → name ≡ part_name output number
written-name output stem' extension' digits text number name three first last is same =
    same ∙ (is
    ∙ (ap (λ ds. stem' ++ (45 ∷ (ds ++ extension'))) (three ∙ padded-three number)
    ∙ ap₂ (λ (s e : List ℕ). s ++ (45 ∷ (three_digits number ++ e))) first last))

-- ---- form of names

same-octets : (xs : List ℕ) → pointwise nat_eq xs xs ≡ true
same-octets [] = refl
same-octets (x ∷ xs) = ap₂ (λ (p q : Bool). p && q) (eq-eqb x x refl) (same-octets xs)

behind-first : (front rest : List ℕ) → behind front (front ++ rest) ≡ Some rest
behind-first front rest =
    ap₂ (λ (q : Bool) (xs : List ℕ). if q then Some xs else None) (ap (pointwise nat_eq front) (take-append_seam front rest) ∙ same-octets front) (drop-append_seam front rest)

before-last : (xs end : List ℕ) → before end (xs ++ end) ≡ Some xs
before-last xs end =
    let long : length (xs ++ end) - length end ≡ length xs = omega (arith, length-append xs end) in
    ap₂ (λ (q : Bool) (ys : List ℕ). if q then Some ys else None)
    (ap (λ k. pointwise nat_eq end (drop k (xs ++ end))) long ∙ (ap (pointwise nat_eq end) (drop-append_seam xs end) ∙ same-octets end))
    (ap (λ k. take k (xs ++ end)) long ∙ take-append_seam xs end)

zeros-are-digits : (k : ℕ) → list_all is_ascii_digit (replicate k 48) ≡ true
zeros-are-digits zero = refl
zeros-are-digits (suc k) = zeros-are-digits k

decimal-is-digits : (n : ℕ) → n < 2 ^ 64 → list_all is_ascii_digit (decimal n) ≡ true
decimal-is-digits n small =
    decimal_by_steps (λ m ds. list_all is_ascii_digit ds ≡ true) (λ m low. rw (digit m low))
    (λ m ds high front. list_all-append is_ascii_digit ds ((48 + m % 10) ∷ []) ∙ ap₂ (λ (p q : Bool). p && q) front (rw (digit (m % 10) (omega arith)))) n small
  where
    digit : (d : ℕ) → d < 10 → is_ascii_digit (48 + d) ≡ true
    digit d low = grind arith

three-are-digits : (n : ℕ) → n < 2 ^ 64 → are_digits (three_digits n) ≡ true
three-are-digits n small =
    ap₂ (λ (p q : Bool). p && q) (le-leb 3 (length (three_digits n)) (long (length (decimal n)) (decimal n) refl))
    (list_all-append is_ascii_digit (replicate (3 - length (decimal n)) 48) (decimal n) ∙ ap₂ (λ (p q : Bool). p && q) (zeros-are-digits (3 - length (decimal n))) (decimal-is-digits n small))
  where
    long : (l : ℕ) (ds : List ℕ) → length ds ≡ l → 3 ≤ length (replicate (3 - l) 48 ++ ds)
    long l ds is = omega (arith, length-append (replicate (3 - l) 48) ds, length-replicate {A = ℕ} (3 - l) 48)

-- The number is found in the name.
number-in-name : (output : List ℕ) (n : ℕ) → number_in output (part_name output n) ≡ Some (three_digits n)
number-in-name output n =
    ap (λ o. option_and_then (before (extension output)) (option_and_then (behind (codes "-")) o)) (behind-first (stem output) (codes "-" ++ (three_digits n ++ extension output)))
    ∙ (ap (λ o. option_and_then (before (extension output)) o) (behind-first (codes "-") (three_digits n ++ extension output)) ∙ before-last (three_digits n) (extension output))

pub part-names : PartNamesAre
part-names output n small = ap (λ o. option_map_or are_digits o false) (number-in-name output n) ∙ three-are-digits n small

-- Leading zeros don't change a number.
value-behind-zeros : (k : ℕ) (ds : List ℕ) → digits_value 10 (replicate k 48 ++ ds) ≡ digits_value 10 ds
value-behind-zeros zero ds = refl
value-behind-zeros (suc k) ds = value-behind-zeros k ds

three-value : (n : ℕ) → n < 2 ^ 64 → digits_value 10 (three_digits n) ≡ n
three-value n small = value-behind-zeros (3 - length (decimal n)) (decimal n) ∙ (decimal_is_IsNumeral n small).1

pub part-names-differ : PartNamesDiffer
part-names-differ output m n small_m small_n same =
    let found : Some (three_digits m) ≡ Some (three_digits n) = sym (number-in-name output m) ∙ (ap (number_in output) same ∙ number-in-name output n) in
    let digits : three_digits m ≡ three_digits n = cc in
    sym (three-value m small_m) ∙ (ap (digits_value 10) digits ∙ three-value n small_n)
