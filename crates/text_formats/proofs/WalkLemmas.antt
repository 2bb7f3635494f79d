-- The first bad line, found line by line.
use Rattle.std.proofs.Common.{◌≡◌, ℕ, zero, suc, ◌+◌, Bool, true, false, not, ◌&&◌, ◌||◌, cond, nat_lt, List, [], ◌∷◌, length, drop, Option, Some, None, refl, ap, ap₂, ◌∙◌, add-one, inl, inr, arith}
use Rattle.std.proofs.lemmas.Bool.Decides.{nat_tests}
use Rattle.std.proofs.lemmas.Bool.{cases_lt}
use Rattle.std.specs.Prelude.{◌==◌, option_map}
use Rattle.std.specs.Option.{is_none, is_some, option_map_or}
use Rattle.std.specs.List.{find, range_with_len}
use Rattle.std.specs.Str.{is_utf8}
use Rattle.text_formats.specs.declared.times.Times.{Times}
use Rattle.text_formats.specs.Srt.{head, before_head, has_arrow, line_at, is_bad, first_bad}
use Rattle.text_formats.specs.Walk.{Place, Front, Second, Behind, next, is_bad_at, bad_from}

-- ---- search in consecutive numbers

find_same : (f g : ℕ → Bool) (ks : List ℕ) → ((k : ℕ) → f k ≡ g k) → find f ks ≡ find g ks
find_same f g [] same = refl
find_same f g (k ∷ ks) same = rw (same k, find_same f g ks same) refl

find_after : (f : ℕ → Bool) (a n : ℕ) → find f (range_with_len (suc a) n) ≡ option_map suc (find (λ k. f (suc k)) (range_with_len a n))
find_after f a zero = refl
find_after f a (suc n) = split (f (suc a)) (rw (add-one, add-one) (find_after f (suc a) n))
  where
    split : (b : Bool) → find f (range_with_len (suc a + 1) n) ≡ option_map suc (find (λ k. f (suc k)) (range_with_len (a + 1) n))
        → cond b (Some (suc a)) (find f (range_with_len (suc a + 1) n)) ≡ option_map suc (cond b (Some a) (find (λ k. f (suc k)) (range_with_len (a + 1) n)))
    split true rest = refl
    split false rest = rest

moved : (n : ℕ) (o : Option ℕ) → option_map (λ k. k + n) (option_map suc o) ≡ option_map (λ k. k + (n + 1)) o
moved n None = refl
moved n (Some k) = let same : suc k + n ≡ k + (n + 1) = omega arith in ap Some same

-- ---- lines that start at a given place

-- The place is before the first head.
abbrev is_early : Place → Bool
is_early Front = true
is_early (Second t) = false
is_early Behind = false

-- the times of the head whose second line is at this place
abbrev head_before : Place → Option Times
head_before Front = None
head_before (Second t) = Some t
head_before Behind = None

abbrev times_in : Option Times → List (List ℕ) → ℕ → Option Times
times_in before ls zero = before
times_in before ls (suc k) = head (drop k ls)

-- Line `l` is bad. `stands` holds if it is before the first head; `before` is the head that it completes, if any.
abbrev judged : Bool → Option Times → List ℕ → Bool
judged stands before l =
    not (is_utf8 l) || (stands && not (length l == 0)) || option_map_or (λ (t : Times). nat_lt t.end t.start) before false || (is_none before && has_arrow l)

-- Line `k` of `ls` is before the first head.
abbrev stands_early : Place → List (List ℕ) → ℕ → Bool
stands_early p ls k = is_early p && nat_lt k (length (before_head ls))

abbrev is_bad_in : Place → List (List ℕ) → ℕ → Bool
is_bad_in p ls k = judged (stands_early p ls k) (times_in (head_before p) ls k) (line_at ls k)

in_front : (ls : List (List ℕ)) (k : ℕ) → is_bad ls k ≡ is_bad_in Front ls k
in_front ls zero = refl
in_front ls (suc k) = refl

-- ---- the first line
test_first : (u a e : Bool) → (u || (a || not e)) ≡ (((u || not e) || false) || a)
test_first true a e = refl
test_first false true true = refl
test_first false true false = refl
test_first false false true = refl
test_first false false false = refl

test_head : (u a : Bool) → (u || (a || false)) ≡ (((u || false) || false) || a)
test_head true a = refl
test_head false true = refl
test_head false false = refl

test_second : (u x : Bool) → (u || x) ≡ (((u || false) || x) || false)
test_second true x = refl
test_second false true = refl
test_second false false = refl

test_behind : (u a : Bool) → (u || a) ≡ (((u || false) || false) || a)
test_behind true a = refl
test_behind false a = refl

first_here : (p : Place) (l : List ℕ) (ls : List (List ℕ)) → is_bad_at p (is_some (head (l ∷ ls))) l ≡ is_bad_in p (l ∷ ls) 0
unfolding before_head
first_here p l ls = split p (head (l ∷ ls))
  where
    split : (q : Place) (h : Option Times) → is_bad_at q (is_some h) l ≡ judged (is_early q && nat_lt 0 (length (cond (is_some h) [] (l ∷ before_head ls)))) (head_before q) l
    split Front None =
        let stands : nat_lt 0 (length (l ∷ before_head ls)) ≡ true = grind (arith, nat_tests) in
        rw stands (test_first (not (is_utf8 l)) (has_arrow l) (length l == 0))
    split Front (Some t) = test_head (not (is_utf8 l)) (has_arrow l)
    split (Second t) h = test_second (not (is_utf8 l)) (nat_lt t.end t.start)
    split Behind h = test_behind (not (is_utf8 l)) (has_arrow l)

-- ---- the next lines
less_suc : (k m : ℕ) → nat_lt (suc k) (suc m) ≡ nat_lt k m
less_suc k m = elim (cases_lt k m) [
  | inl less ↦ (let a : nat_lt (suc k) (suc m) ≡ true = grind (arith, nat_tests) in let b : nat_lt k m ≡ true = grind (arith, nat_tests) in cc)
  | inr over ↦ (let a : nat_lt (suc k) (suc m) ≡ false = grind (arith, nat_tests) in let b : nat_lt k m ≡ false = grind (arith, nat_tests) in cc)
]

stands_next : (p : Place) (l : List ℕ) (ls : List (List ℕ)) (k : ℕ) → stands_early p (l ∷ ls) (suc k) ≡ stands_early (next p (head (l ∷ ls))) ls k
unfolding before_head
stands_next p l ls k = split p (head (l ∷ ls))
  where
    split : (q : Place) (h : Option Times) → (is_early q && nat_lt (suc k) (length (cond (is_some h) [] (l ∷ before_head ls)))) ≡ stands_early (next q h) ls k
    split Front None = less_suc k (length (before_head ls))
    split Front (Some t) = grind (arith, nat_tests)
    split (Second t) None = refl
    split (Second t) (Some u) = refl
    split Behind None = refl
    split Behind (Some t) = refl

before_next : (p : Place) (h : Option Times) → h ≡ head_before (next p h)
before_next Front None = refl
before_next (Second t) None = refl
before_next Behind None = refl
before_next p (Some t) = refl

times_next : (p : Place) (l : List ℕ) (ls : List (List ℕ)) (k : ℕ) → head (drop k (l ∷ ls)) ≡ times_in (head_before (next p (head (l ∷ ls)))) ls k
times_next p l ls zero = before_next p (head (l ∷ ls))
times_next p l ls (suc k) = refl

next_bad : (p : Place) (l : List ℕ) (ls : List (List ℕ)) (k : ℕ) → is_bad_in p (l ∷ ls) (suc k) ≡ is_bad_in (next p (head (l ∷ ls))) ls k
next_bad p l ls k = ap₂ (λ (stands : Bool) (before : Option Times). judged stands before (line_at ls k)) (stands_next p l ls k) (times_next p l ls k)

-- The walk from place `p` finds the first bad line.
found : (p : Place) (n : ℕ) (ls : List (List ℕ)) → option_map (λ k. k + n) (find (is_bad_in p ls) (range_with_len 0 (length ls))) ≡ bad_from p n ls
unfolding bad_from
found p n [] = refl
found p n (l ∷ ls) =
    let q = next p (head (l ∷ ls)) in
    let f : ℕ → Bool = is_bad_in p (l ∷ ls) in
    let later : find f (range_with_len 1 (length ls)) ≡ option_map suc (find (is_bad_in q ls) (range_with_len 0 (length ls))) =
    find_after f 0 (length ls) ∙ ap (option_map suc) (find_same (λ k. f (suc k)) (is_bad_in q ls) (range_with_len 0 (length ls)) (next_bad p l ls)) in
    let rest = ap (option_map (λ (k : ℕ). k + n)) later ∙ moved n (find (is_bad_in q ls) (range_with_len 0 (length ls))) ∙ found q (n + 1) ls in
    rw (first_here p l ls) (split (f 0) (find f (range_with_len 1 (length ls))) (bad_from q (n + 1) ls) rest)
  where
    split : (b : Bool) (some any : Option ℕ) → option_map (λ k. k + n) some ≡ any → option_map (λ k. k + n) (cond b (Some 0) some) ≡ cond b (Some n) any
    split true some any rest = ap Some (omega arith)
    split false some any rest = rest

-- The walk from the start finds the first bad line.
pub bad_is : (ls : List (List ℕ)) → first_bad ls ≡ bad_from Front 1 ls
unfolding first_bad
bad_is ls = ap (option_map (λ (k : ℕ). k + 1)) (find_same (is_bad ls) (is_bad_in Front ls) (range_with_len 0 (length ls)) (in_front ls)) ∙ found Front 1 ls
