-- A line without an arrow isn't a line of times. A written line of times is read back.
use Rattle.std.proofs.Common.{◌≡◌, ℕ, zero, suc, ◌+◌, ◌*◌, ◌/◌, ◌%◌, ◌<◌, ◌≤◌, true, false, List, [], ◌∷◌, ◌++◌, length, take, drop, Option, Some, None, refl, ap, arith, append_assoc, append-nil, inl, inr, codes, option_and_then, option_map, ◌==◌, le-leb}
use Rattle.std.proofs.lemmas.Grind.{common_steps}
use Rattle.std.specs.List.{list_all, position, prefix_len}
use Rattle.std.specs.Char.{is_ascii_digit}
use Rattle.std.specs.Str.{bytes_eq}
use Rattle.std.proofs.lemmas.Bool.{and_parts, cases_Bool, or_left, or_parts, or_right}
use Rattle.mkv_io.specs.Octets.{cut, lacks}
use Rattle.text_formats.specs.Fields.{behind, digits, minutes_or_seconds}
use Rattle.text_formats.specs.Pieces.{two_digits, three_digits, two_or_more, stamp}
use Rattle.text_formats.specs.Times.{seconds, clock, times, span, is_number}
use Rattle.text_formats.specs.Srt.{has_arrow}
use Rattle.mkv_io.proofs.OctetsLemmas.{digits_lack, cut_behind, lacks_parts}
use Rattle.record_laws.proofs.DigitsLemmas.{two_all, padded_all, digits_padded, digits_three, sixtieth_two}
use Rattle.record_laws.proofs.LineLemmas.{parts_of}

-- ---- an arrow
arrow_next : (b : ℕ) (bs : List ℕ) → has_arrow (b ∷ bs) ≡ false → has_arrow bs ≡ false
unfolding has_arrow
arrow_next b bs none = (or_parts (bytes_eq (take 3 (b ∷ bs)) (codes "-->")) (has_arrow bs) none).1

pub arrow_none : has_arrow [] ≡ false
unfolding has_arrow
arrow_none = refl

-- The rest of a text without an arrow has none.
pub arrow_drop : (k : ℕ) (w : List ℕ) → has_arrow w ≡ false → has_arrow (drop k w) ≡ false
arrow_drop zero w none = none
arrow_drop (suc k) [] none = arrow_none
arrow_drop (suc k) (b ∷ bs) none = arrow_drop k bs (arrow_next b bs none)

-- A text without `-` has no arrow.
pub lacks_arrow : (w : List ℕ) → lacks 45 w ≡ true → has_arrow w ≡ false
unfolding has_arrow
lacks_arrow [] none = refl
lacks_arrow (b ∷ bs) none = let parts = lacks_parts 45 b bs none in rw (parts.0, lacks_arrow bs parts.1) refl

arrow_first : (w : List ℕ) → bytes_eq (take 4 w) (codes "--> ") ≡ true → bytes_eq (take 3 w) (codes "-->") ≡ true
arrow_first [] e = absurd (cc)
arrow_first (a ∷ []) e = grind arith
arrow_first (a ∷ b ∷ []) e = grind arith
arrow_first (a ∷ b ∷ c ∷ []) e = grind arith
arrow_first (a ∷ b ∷ c ∷ d ∷ ds) e = grind arith

arrow_here : (w : List ℕ) → bytes_eq (take 3 w) (codes "-->") ≡ true → has_arrow w ≡ true
unfolding has_arrow
arrow_here [] e = absurd (cc)
arrow_here (b ∷ bs) e = or_left (bytes_eq (take 3 (b ∷ bs)) (codes "-->")) (has_arrow bs) e

arrow_behind : (w : List ℕ) → bytes_eq (take 5 w) (codes " --> ") ≡ true → has_arrow w ≡ true
unfolding has_arrow
arrow_behind [] e = absurd (cc)
arrow_behind (b ∷ bs) e =
    or_right (bytes_eq (take 3 (b ∷ bs)) (codes "-->")) (has_arrow bs) (arrow_here bs (arrow_first bs (and_parts (b == 32) (bytes_eq (take 4 bs) (codes "--> ")) e).1))

no_arrow_in_front : (w : List ℕ) → has_arrow w ≡ false → behind (codes " --> ") w ≡ None
no_arrow_in_front w none =
    elim (cases_Bool (bytes_eq (take 5 w) (codes " --> "))) [ inl is ↦ absurd (let e = arrow_behind w is in cc) | inr is ↦ rw is refl ]

-- ---- no times without an arrow
-- A fact about the value of an option.
abbrev Holds : {A : Type 0} → (A → Type 0) → Option A → Type 0
Holds P None = Unit {0}
Holds P (Some x) = P x

holds_then : {A B : Type 0} (P : A → Type 0) (Q : B → Type 0) (o : Option A) (f : A → Option B) → Holds P o → ((x : A) → P x → Holds Q (f x)) → Holds Q (option_and_then f o)
holds_then P Q None f h more = tt
holds_then P Q (Some x) f h more = more x h

holds_any : {A : Type 0} (o : Option A) → Holds (λ (x : A). Unit {0}) o
holds_any None = tt
holds_any (Some x) = tt

abbrev NoArrow : List ℕ × List ℕ → Type 0
NoArrow p = has_arrow p.1 ≡ false

abbrev NoArrowLeft : ℕ × List ℕ → Type 0
NoArrowLeft p = has_arrow p.1 ≡ false

cut_holds : (o : ℕ) (w : List ℕ) → has_arrow w ≡ false → Holds NoArrow (cut o w)
unfolding cut
cut_holds o w none = split (position (λ b. b == o) w)
  where
    split : (at : Option ℕ) → Holds NoArrow (option_map (λ i. (take i w, drop (i + 1) w)) at)
    split None = tt
    split (Some i) = arrow_drop (i + 1) w none

clock_holds : (w : List ℕ) → has_arrow w ≡ false → Holds NoArrowLeft (clock w)
unfolding clock
clock_holds w none =
    holds_then NoArrow NoArrowLeft (cut 58 w) _ (cut_holds 58 w none) (λ h no_h.
    holds_then NoArrow NoArrowLeft (cut 58 h.1) _ (cut_holds 58 h.1 no_h) (λ m no_m.
    holds_then (λ (n : ℕ). Unit {0}) NoArrowLeft (digits 2 4 h.0) _ (holds_any (digits 2 4 h.0)) (λ hours any.
    holds_then (λ (n : ℕ). Unit {0}) NoArrowLeft (minutes_or_seconds m.0) _ (holds_any (minutes_or_seconds m.0)) (λ minutes any'.
    holds_then (λ (n : ℕ). Unit {0}) NoArrowLeft (seconds m.1) _ (holds_any (seconds m.1)) (λ rest any''. arrow_drop 6 m.1 no_m)))))

times_none : {B : Type 0} (start : Option (ℕ × List ℕ)) (more : ℕ × List ℕ → List ℕ → Option B) → Holds NoArrowLeft start
    → option_and_then (λ s. option_and_then (more s) (behind (codes " --> ") s.1)) start ≡ None
times_none None more holds = refl
times_none (Some s) more holds = rw (no_arrow_in_front s.1 holds) refl

-- A line without an arrow has no times.
pub no_times : (w : List ℕ) → has_arrow w ≡ false → times w ≡ None
unfolding times
no_times w none = times_none (clock w) _ (clock_holds w none)

-- ---- times that are written are read back
seconds_written : (s t : ℕ) (rest : List ℕ) → s < 60 → t < 1000 → seconds (two_digits s ++ (44 ∷ (three_digits t ++ rest))) ≡ Some (s * 1000 + t)
unfolding seconds
seconds_written s t rest few short = rw (sixtieth_two s few, digits_three t short) refl

clock_written : (ms : ℕ) (rest : List ℕ) → ms < 36000000000 → clock (stamp 44 ms ++ rest) ≡ Some (ms * 1000000, rest)
unfolding clock stamp
clock_written ms rest early =
    let h = ms / 3600000 in let m = ms / 60000 % 60 in let s = ms / 1000 % 60 in let t = ms % 1000 in
    let parts = parts_of ms in
    let few : h < 10000 = omega arith in
    let last : List ℕ = two_digits s ++ (44 ∷ (three_digits t ++ rest)) in
    let middle : List ℕ = two_digits m ++ (58 ∷ last) in
    let joined : (two_or_more h ++ (58 ∷ (two_digits m ++ (58 ∷ (two_digits s ++ (44 ∷ three_digits t)))))) ++ rest ≡ two_or_more h ++ (58 ∷ middle) = append_assoc (two_or_more h) (58 ∷ (two_digits m ++ (58 ∷ (two_digits s ++ (44 ∷ three_digits t))))) rest in
    let a = cut_behind 58 (two_or_more h) middle (digits_lack 58 (two_or_more h) refl (padded_all h (omega arith))) in
    let b = cut_behind 58 (two_digits m) last (digits_lack 58 (two_digits m) refl (two_all m)) in
    let c = digits_padded h few in
    let d = sixtieth_two m parts.minutes in
    let e = seconds_written s t rest parts.seconds parts.thousandths in
    rw joined (rw a (rw b (rw c (rw d (rw e (ap (λ n. Some (n * 1000000, rest)) parts.whole))))))

pub times_written : (a b : ℕ) → a < 36000000000 → b < 36000000000 → times (stamp 44 a ++ (codes " --> " ++ stamp 44 b)) ≡ Some (span (a * 1000000) (b * 1000000))
unfolding times
times_written a b early late =
    let first = clock_written a (codes " --> " ++ stamp 44 b) early in
    let none : stamp 44 b ++ [] ≡ stamp 44 b = append-nil (stamp 44 b) in
    let second = rw none at (clock_written b [] late) in
    rw first (rw second refl)

-- ---- a number is a number line
all_prefix : (ds : List ℕ) → list_all is_ascii_digit ds ≡ true → prefix_len is_ascii_digit ds ≡ length ds
all_prefix [] all = refl
all_prefix (b ∷ bs) all = let both = and_parts (is_ascii_digit b) (list_all is_ascii_digit bs) all in rw (both.0, all_prefix bs both.1) (omega arith)

pub number_line : (ds : List ℕ) → list_all is_ascii_digit ds ≡ true → 0 < length ds → length ds ≤ 9 → is_number ds ≡ true
unfolding is_number
number_line ds all some short =
    let e = all_prefix ds all in
    let none : drop (length ds) ds ≡ [] = grind (arith, common_steps) in
    rw (e, le-leb 1 (length ds) some, le-leb (length ds) 9 short, none) refl
