-- Heads, entries and bad lines, one line at a time.
use Rattle.std.proofs.Common.{◌≡◌, ℕ, zero, suc, ◌+◌, ◌<◌, ◌≤◌, Bool, true, false, not, ◌||◌, nat_lt, ◌^◌, MatchOption, List, [], ◌∷◌, ◌++◌, length, take, drop, Option, Some, None, refl, ap, arith, drop-cons}
use Rattle.std.specs.Prelude.{◌==◌, codes}
use Rattle.std.proofs.lemmas.Grind.{common_steps}
use Rattle.std.proofs.lemmas.Bool.Decides.{nat_tests}
use Rattle.std.proofs.lemmas.Str.{IsUtf8-from_is_utf8, is_utf8-from_IsUtf8}
use Rattle.std.specs.Option.{is_some}
use Rattle.std.specs.Str.{is_utf8, IsUtf8, bytes_eq}
use Rattle.std.specs.List.{join_with_byte}
use Rattle.text_formats.specs.declared.times.Times.{Times}
use Rattle.text_formats.specs.Times.{is_number, times}
use Rattle.text_formats.specs.Srt.{has_arrow, head, before_head, trimmed, onto_lines, text_of, entry, entries}
use Rattle.text_formats.specs.Walk.{Place, Front, Second, Behind, next, is_bad_at, bad_from}
use Rattle.text_formats.specs.declared.reading.Head.{Head}
use Rattle.text_formats.specs.Times.{latest}
use Rattle.text_formats.specs.Reading.{IsWithin, left, breaks}
use Rattle.text_formats.proofs.TimesLemmas.{number_no_times}

pub ruleset texts = (IsUtf8-from_is_utf8, is_utf8-from_IsUtf8)

-- ---- heads
pub head_other : (l : List ℕ) (ls : List (List ℕ)) → is_number l ≡ false → head (l ∷ ls) ≡ None
unfolding head
head_other l [] other = refl
head_other l (t ∷ ls) other = rw other refl

pub head_alone : (l : List ℕ) → head (l ∷ []) ≡ None
unfolding head
head_alone l = refl

pub head_is : (l t : List ℕ) (ls : List (List ℕ)) → is_number l ≡ true → head (l ∷ t ∷ ls) ≡ times t
unfolding head
head_is l t ls is = rw is refl

second_cases : (t : List ℕ) (ls : List (List ℕ)) (x : Times) (b : Bool) → is_number t ≡ b → times t ≡ Some x → head (t ∷ ls) ≡ None
second_cases t ls x true is e = let no = number_no_times t is in cc
second_cases t ls x false is e = head_other t ls is

-- The second line of a head doesn't begin a head.
pub head_second : (t : List ℕ) (ls : List (List ℕ)) (x : Times) → times t ≡ Some x → head (t ∷ ls) ≡ None
head_second t ls x e = second_cases t ls x (is_number t) refl e

-- ---- entries
pub entries_other : (l : List ℕ) (ls : List (List ℕ)) → head (l ∷ ls) ≡ None → entries (l ∷ ls) ≡ entries ls
unfolding entries
entries_other l ls none = rw none refl

pub entries_head : (l t : List ℕ) (ls : List (List ℕ)) (x : Times) → is_number l ≡ true → times t ≡ Some x →
    entries (l ∷ t ∷ ls) ≡ entry x (before_head ls) ∷ entries ls
unfolding entries
entries_head l t ls x is e =
    let h : head (l ∷ t ∷ ls) ≡ Some x = rw (head_is l t ls is) e in
    let none : head (t ∷ ls) ≡ None = head_second t ls x e in
    rw (h, none) refl

-- ---- bad lines
pub bad_other : (p : Place) (n : ℕ) (l : List ℕ) (ls : List (List ℕ)) → head (l ∷ ls) ≡ None → is_bad_at p false l ≡ false →
    bad_from p n (l ∷ ls) ≡ bad_from (next p None) (n + 1) ls
unfolding bad_from
bad_other p n l ls none good = rw (none, good) refl

pub bad_head : (p : Place) (n : ℕ) (l : List ℕ) (ls : List (List ℕ)) (x : Times) → head (l ∷ ls) ≡ Some x → is_bad_at p true l ≡ false →
    bad_from p n (l ∷ ls) ≡ bad_from (Second x) (n + 1) ls
unfolding bad_from
bad_head p n l ls x h good = rw (h, good) refl

pub bad_here : (p : Place) (n : ℕ) (l : List ℕ) (ls : List (List ℕ)) → is_bad_at p (is_some (head (l ∷ ls))) l ≡ true →
    bad_from p n (l ∷ ls) ≡ Some n
unfolding bad_from
bad_here p n l ls bad = rw bad refl

-- ---- texts
-- the bytes that the lines add to a text, after `k` line feeds that are due
abbrev pub adds : ℕ → List (List ℕ) → List ℕ
adds k [] = []
adds k ([] ∷ ls) = adds (k + 1) ls
adds k ((b ∷ bs) ∷ ls) = breaks k ++ ((b ∷ bs) ++ adds 1 ls)

abbrev pub joined_from : ℕ → List (List ℕ) → List ℕ
joined_from k [] = []
joined_from k (l ∷ ls) = breaks k ++ join_with_byte 10 (l ∷ ls)

pub breaks_more : (k : ℕ) (ys : List ℕ) → breaks (k + 1) ++ ys ≡ breaks k ++ (10 ∷ ys)
breaks_more zero ys = refl
breaks_more (suc k) ys = let e : suc k + 1 ≡ suc (k + 1) = omega arith in rw e (ap (λ zs. 10 ∷ zs) (breaks_more k ys))

empty_step : (k : ℕ) (ts : List (List ℕ)) → joined_from (k + 1) ts ≡ joined_from k (onto_lines [] ts)
empty_step k [] = refl
empty_step k (m ∷ ms) = breaks_more k (join_with_byte 10 (m ∷ ms))

some_step : (k b : ℕ) (bs : List ℕ) (ts : List (List ℕ)) → breaks k ++ ((b ∷ bs) ++ joined_from 1 ts) ≡ joined_from k (onto_lines (b ∷ bs) ts)
some_step k b bs [] = let e : (b ∷ bs) ++ [] ≡ b ∷ bs = grind (arith, common_steps) in rw e refl
some_step k b bs (m ∷ ms) = refl

adds_joined : (k : ℕ) (ls : List (List ℕ)) → adds k ls ≡ joined_from k (trimmed ls)
unfolding trimmed
adds_joined k [] = refl
adds_joined k ([] ∷ ls) = rw (adds_joined (k + 1) ls) (empty_step k (trimmed ls))
adds_joined k ((b ∷ bs) ∷ ls) = rw (adds_joined 1 ls) (some_step k b bs (trimmed ls))

from_none : (ts : List (List ℕ)) → joined_from 0 ts ≡ join_with_byte 10 ts
from_none [] = refl
from_none (t ∷ ts) = refl

-- All lines of an entry together add its text.
pub adds_text : (ls : List (List ℕ)) → adds 0 ls ≡ text_of ls
adds_text ls = rw (adds_joined 0 ls) (from_none (trimmed ls))

pub adds_empty : (k : ℕ) (l : List ℕ) (ls : List (List ℕ)) → length l ≡ 0 → adds k (l ∷ ls) ≡ adds (k + 1) ls
adds_empty k [] ls e = refl
adds_empty k (b ∷ bs) ls e = absurd (omega arith)

pub adds_some : (k : ℕ) (l : List ℕ) (ls : List (List ℕ)) → 0 < length l → adds k (l ∷ ls) ≡ breaks k ++ (l ++ adds 1 ls)
adds_some k [] ls e = absurd (omega arith)
adds_some k (b ∷ bs) ls e = refl

-- ---- lines up to the next head
pub before_other : (l : List ℕ) (ls : List (List ℕ)) → head (l ∷ ls) ≡ None → before_head (l ∷ ls) ≡ l ∷ before_head ls
unfolding before_head
before_other l ls none = rw none refl

pub before_at : (l : List ℕ) (ls : List (List ℕ)) (x : Times) → head (l ∷ ls) ≡ Some x → before_head (l ∷ ls) ≡ []
unfolding before_head
before_at l ls x h = rw h refl

pub before_end : before_head [] ≡ []
unfolding before_head
before_end = refl

pub entries_end : entries [] ≡ []
unfolding entries
entries_end = refl

pub bad_end : (p : Place) (n : ℕ) → bad_from p n [] ≡ None
unfolding bad_from
bad_end p n = refl

-- ---- allowed lines
or_more : (u a x : Bool) → (u || a) ≡ true → (u || (a || x)) ≡ true
or_more true a x e = refl
or_more false true x e = refl
or_more false false x e = absurd (cc)

or_same : (u a : Bool) → (u || a) ≡ false → (u || (a || false)) ≡ false
or_same true a e = absurd (cc)
or_same false true e = absurd (cc)
or_same false false e = refl

or_last : (u a x : Bool) → x ≡ true → (u || (a || x)) ≡ true
or_last true a x e = refl
or_last false true x e = refl
or_last false false x e = e

pub bad_front : (l : List ℕ) (b : Bool) → is_bad_at Behind false l ≡ true → is_bad_at Front b l ≡ true
bad_front l b e = or_more (not (is_utf8 l)) (has_arrow l) (not (b || length l == 0)) e

pub good_head : (l : List ℕ) → is_bad_at Behind false l ≡ false → is_bad_at Front true l ≡ false
good_head l e = or_same (not (is_utf8 l)) (has_arrow l) e

pub good_empty : (l : List ℕ) → length l ≡ 0 → is_bad_at Behind false l ≡ false → is_bad_at Front false l ≡ false
good_empty [] none e = or_same (not (is_utf8 [])) (has_arrow []) e
good_empty (b ∷ bs) none e = absurd (omega arith)

pub bad_some : (l : List ℕ) → 0 < length l → is_bad_at Front false l ≡ true
bad_some [] some = absurd (omega arith)
bad_some (b ∷ bs) some = or_last (not (is_utf8 (b ∷ bs))) (has_arrow (b ∷ bs)) (not (false || length (b ∷ bs) == 0)) (grind (arith, nat_tests, common_steps))

-- ---- the second line of a head
text_bad : (u x : Bool) → u ≡ false → (not u || x) ≡ true
text_bad u x e = rw e refl

late_bad : (u x : Bool) → x ≡ true → (not u || x) ≡ true
late_bad true x e = e
late_bad false x e = refl

both_good : (u x : Bool) → u ≡ true → x ≡ false → (not u || x) ≡ false
both_good u x e f = rw (e, f) refl

pub second_no_text : (n : ℕ) (t : List ℕ) (ls : List (List ℕ)) (x : Times) → is_utf8 t ≡ false → bad_from (Second x) n (t ∷ ls) ≡ Some n
second_no_text n t ls x no_text = bad_here (Second x) n t ls (text_bad (is_utf8 t) (nat_lt x.end x.start) no_text)

pub second_late : (n : ℕ) (t : List ℕ) (ls : List (List ℕ)) (x : Times) → x.end < x.start → bad_from (Second x) n (t ∷ ls) ≡ Some n
second_late n t ls x late =
    let is : nat_lt x.end x.start ≡ true = grind (arith, nat_tests) in
    bad_here (Second x) n t ls (late_bad (is_utf8 t) (nat_lt x.end x.start) is)

pub second_good : (n : ℕ) (t : List ℕ) (ls : List (List ℕ)) (x : Times) → times t ≡ Some x → is_utf8 t ≡ true → x.start ≤ x.end →
    bad_from (Second x) n (t ∷ ls) ≡ bad_from Behind (n + 1) ls
second_good n t ls x e text right =
    let is : nat_lt x.end x.start ≡ false = grind (arith, nat_tests) in
    bad_other (Second x) n t ls (head_second t ls x e) (both_good (is_utf8 t) (nat_lt x.end x.start) text is)

-- ---- the rest of the file
pub left_less : (n : ℕ) (from : List ℕ) (o : Option Head) → IsWithin n from o → left o ≤ length from
left_less n from None within = omega arith
left_less n from (Some h) within = let less = within.1 in omega arith

pub room_within : (n : ℕ) (from : List ℕ) (o : Option Head) → n + length from < 2 ^ 64 → IsWithin n from o
    → MatchOption o (Unit {0}) (λ h. (h.number + length h.rest.now < 2 ^ 64) × (h.times.start ≤ h.times.end) × (h.times.end < latest))
room_within n from None room within = tt
room_within n from (Some h) room within = let most = within.0 in (omega arith, within.2, within.3)

-- ---- line feeds
pub breaks_one : (k : ℕ) → breaks (k + 1) ≡ breaks k ++ (10 ∷ [])
breaks_one zero = refl
breaks_one (suc k) = let e : suc k + 1 ≡ suc (k + 1) = omega arith in rw e (ap (λ zs. 10 ∷ zs) (breaks_one k))

-- ---- arrows
pub arrow_at : (l : List ℕ) (i : ℕ) → i < length l → bytes_eq (take 3 (drop i l)) (codes "-->") ≡ true → has_arrow (drop i l) ≡ true
unfolding has_arrow
arrow_at l i within here = rw (drop-cons l i 0) (let h = rw (drop-cons l i 0) at here in rw h refl)

pub arrow_later : (l : List ℕ) (i : ℕ) → i < length l → bytes_eq (take 3 (drop i l)) (codes "-->") ≡ false → has_arrow (drop i l) ≡ has_arrow (drop (i + 1) l)
unfolding has_arrow
arrow_later l i within here =
    let one : i + 1 ≡ suc i = omega arith in
    rw (one, drop-cons l i 0) (let h = rw (drop-cons l i 0) at here in rw h refl)

pub arrow_end : (l : List ℕ) (i : ℕ) → length l ≤ i → has_arrow (drop i l) ≡ false
unfolding has_arrow
arrow_end l i past = let none : drop i l ≡ [] = grind (arith, common_steps) in rw none refl

not_bool : (b : Bool) → (¬ (b ≡ true)) → b ≡ false
not_bool true h = absurd (h refl)
not_bool false h = refl

pub no_text : (l : List ℕ) → ¬ (IsUtf8 l) → is_utf8 l ≡ false
no_text l h = not_bool (is_utf8 l) (λ e. h (IsUtf8-from_is_utf8 l e))
