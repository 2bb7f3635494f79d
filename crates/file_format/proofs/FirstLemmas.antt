-- Laws on the first Elements, and the first numbers, that pass a test.
use Rattle.std.proofs.Common.{◌≡◌, ◌≢◌, ◌<◌, ◌≤◌, ℕ, zero, suc, ◌+◌, ◌==◌, Bool, true, false, not, ◌&&◌, cond, List, [], ◌∷◌, length, find, take, get_or, Some, None, refl, sym, ap, ap₂, ◌∙◌, arith, eq-eqb, get_or-take, length-take}
use Rattle.std.specs.Prelude.{slice_get}
use Rattle.std.specs.List.{range_with_len, AllPairs}
use Rattle.std.proofs.lemmas.Bool.Decides.{nat_tests}
use Rattle.std.proofs.lemmas.List.Folds.{list_any_at, list_any_none}
use Rattle.std.proofs.lemmas.Grind.{get_or_default_zero}
use Rattle.tree_format.specs.Node.{Node, id_of}
use Rattle.tree_format.specs.Changes.{without}
use Rattle.file_format.specs.Refusal.{firsts, is_repeated, first_repeated}

-- ---- the first one that passes

pub find-same : (p q : Node → Bool) → ((m : Node) → p m ≡ q m) → (ns : List Node) → find p ns ≡ find q ns
find-same p q same [] = refl
find-same p q same (n ∷ ns) = ap₂ (λ t r. cond t (Some n) r) (same n) (find-same p q same ns)

pub find-without : (p : Node → Bool) (id : ℕ) (ns : List Node) → find p (without id ns) ≡ find (λ m. not (id_of m == id) && p m) ns
find-without p id [] = refl
find-without p id (n ∷ ns) = split (not (id_of n == id)) (find-without p id ns)
  where
    split : (keep : Bool) → find p (without id ns) ≡ find (λ m. not (id_of m == id) && p m) ns
        → find p (cond keep (n ∷ without id ns) (without id ns)) ≡ cond (keep && p n) (Some n) (find (λ m. not (id_of m == id) && p m) ns)
    split true rest = ap (cond (p n) (Some n)) rest
    split false rest = rest

-- The Element that `find` returns passes the test.
pub find-passes : (q : Node → Bool) (ns : List Node) (m : Node) → find q ns ≡ Some m → q m ≡ true
find-passes q [] m found = absurd (cc)
find-passes q (n ∷ ns) m found = split (q n) refl found (find-passes q ns m)
  where
    split : (t : Bool) → q n ≡ t → cond t (Some n) (find q ns) ≡ Some m → (find q ns ≡ Some m → q m ≡ true) → q m ≡ true
    split true is found rest = let same : n ≡ m = cc in ap q (sym same) ∙ is
    split false is found rest = rest found

-- ---- the first one of each ID

-- The Element `m` has another ID than `n`, and passes `p`.
abbrev other : (Node → Bool) → Node → Node → Bool
other p n m = not (id_of m == id_of n) && p m

-- If none of the first Elements passes, the first one with an ID doesn't.
pub firsts-none : (p : Node → Bool) (ns : List Node) (id : ℕ) (m : Node) → find p (firsts ns) ≡ None → find (λ n. id_of n == id) ns ≡ Some m → p m ≡ false
firsts-none p [] id m none found = absurd (cc)
firsts-none p (n ∷ ns) id m none found =
    by_test (p n) refl none (id_of n == id) refl found (λ none found. firsts-none (other p n) ns id m none found)
  where
    by_test : (t : Bool) → p n ≡ t → cond t (Some n) (find p (without (id_of n) (firsts ns))) ≡ None
        → (s : Bool) → (id_of n == id) ≡ s → cond s (Some n) (find (λ k. id_of k == id) ns) ≡ Some m
        → (find (other p n) (firsts ns) ≡ None → find (λ k. id_of k == id) ns ≡ Some m → other p n m ≡ false) → p m ≡ false
    by_test true passes none s same found rest = absurd (cc)
    by_test false passes none true same found rest = let is : n ≡ m = cc in ap p (sym is) ∙ passes
    by_test false passes none false same found rest =
        let test : (id_of m == id) ≡ true = find-passes (λ k. id_of k == id) ns m found in
        let apart : (id_of m == id_of n) ≡ false = grind (arith, nat_tests) in
        let fails = rest (sym (find-without p (id_of n) (firsts ns)) ∙ none) found in
        rw apart at fails

-- The first of the first Elements that passes is the first one with its ID.
pub firsts-some : (p : Node → Bool) (ns : List Node) (m : Node) → find p (firsts ns) ≡ Some m → (find (λ n. id_of n == id_of m) ns ≡ Some m) × (p m ≡ true)
firsts-some p [] m found = absurd (cc)
firsts-some p (n ∷ ns) m found = by_test (p n) refl found (firsts-some (other p n) ns m)
  where
    both : (b : Bool) → not b && p m ≡ true → (b ≡ false) × (p m ≡ true)
    both true is = absurd (cc)
    both false is = (refl, is)

    by_test : (t : Bool) → p n ≡ t → cond t (Some n) (find p (without (id_of n) (firsts ns))) ≡ Some m
        → (find (other p n) (firsts ns) ≡ Some m → (find (λ k. id_of k == id_of m) ns ≡ Some m) × (other p n m ≡ true))
        → (cond (id_of n == id_of m) (Some n) (find (λ k. id_of k == id_of m) ns) ≡ Some m) × (p m ≡ true)
    by_test true passes found rest =
        let is : n ≡ m = cc in
        let test : (id_of n == id_of m) ≡ true = eq-eqb (id_of n) (id_of m) (ap id_of is) in
        (rw test found, ap p (sym is) ∙ passes)
    by_test false passes found rest =
        let there = rest (sym (find-without p (id_of n) (firsts ns)) ∙ found) in
        let fact = both (id_of m == id_of n) there.1 in
        let apart : (id_of m == id_of n) ≡ false = fact.0 in
        let test : (id_of n == id_of m) ≡ false = grind (arith, nat_tests) in
        (rw test there.0, fact.1)

-- ---- numbers

pub find-none : (p : ℕ → Bool) (a n : ℕ) → find p (range_with_len a n) ≡ None → (k : ℕ) → k < n → p (a + k) ≡ false
find-none p a zero none k inside = absurd (omega arith)
find-none p a (suc n) none zero inside = split (p a) refl none
  where
    split : (t : Bool) → p a ≡ t → cond t (Some a) (find p (range_with_len (a + 1) n)) ≡ None → p (a + 0) ≡ false
    split true is none = absurd (cc)
    split false is none = let same : a + 0 ≡ a = omega arith in ap p same ∙ is
find-none p a (suc n) none (suc k) inside = split (p a) none (λ none. find-none p (a + 1) n none k (omega arith))
  where
    split : (t : Bool) → cond t (Some a) (find p (range_with_len (a + 1) n)) ≡ None → (find p (range_with_len (a + 1) n) ≡ None → p ((a + 1) + k) ≡ false) → p (a + suc k) ≡ false
    split true none rest = absurd (cc)
    split false none rest = let same : a + suc k ≡ (a + 1) + k = omega arith in ap p same ∙ rest none

pub none-find : (p : ℕ → Bool) (a n : ℕ) → ((k : ℕ) → k < n → p (a + k) ≡ false) → find p (range_with_len a n) ≡ None
none-find p a zero none = refl
none-find p a (suc n) none =
    let first : p a ≡ false = let same : a ≡ a + 0 = omega arith in ap p same ∙ none 0 (omega arith) in
    rw first (none-find p (a + 1) n (λ k inside. let same : (a + 1) + k ≡ a + suc k = omega arith in ap p same ∙ none (suc k) (omega arith)))

pub find-within : (p : ℕ → Bool) (a n k : ℕ) → find p (range_with_len a n) ≡ Some k → k < a + n
find-within p a zero k found = absurd (cc)
find-within p a (suc n) k found = split (p a) found (find-within p (a + 1) n k)
  where
    split : (t : Bool) → cond t (Some a) (find p (range_with_len (a + 1) n)) ≡ Some k → (find p (range_with_len (a + 1) n) ≡ Some k → k < (a + 1) + n) → k < a + suc n
    split true found rest = let same : a ≡ k = cc in omega arith
    split false found rest = let below : k < (a + 1) + n = rest found in omega arith

-- ---- indices

pub get-none : (ns : List Node) (k : ℕ) → slice_get ns k ≡ None → length ns ≤ k
get-none [] k none = omega arith
get-none (n ∷ ns) zero none = absurd (cc)
get-none (n ∷ ns) (suc k) none = let rest : length ns ≤ k = get-none ns k none in omega arith

pub none-get : (ns : List Node) (k : ℕ) → length ns ≤ k → slice_get ns k ≡ None
none-get [] k past = refl
none-get (n ∷ ns) zero past = absurd (omega arith)
none-get (n ∷ ns) (suc k) past = none-get ns k (omega arith)

-- No number is repeated if and only if the numbers are distinct.
pub distinct-from_none : (ns : List ℕ) → first_repeated ns ≡ None → AllPairs ◌≢◌ ns
distinct-from_none ns none i j d before inside same =
    let start : 0 + j ≡ j = omega arith in
    let fails : is_repeated ns j ≡ false = ap (is_repeated ns) (sym start) ∙ find-none (is_repeated ns) 0 (length ns) none j inside in
    let value : get_or (take j ns) i d ≡ get_or ns j 0 = get_or-take j ns i d before ∙ same ∙ get_or_default_zero ns j d inside in
    let within : i < length (take j ns) = omega (arith, length-take j ns) in
    let found : is_repeated ns j ≡ true = list_any_at (λ n. n == get_or ns j 0) (take j ns) i d within (eq-eqb (get_or (take j ns) i d) (get_or ns j 0) value) in
    absurd (cc)

pub none-from_distinct : (ns : List ℕ) → AllPairs ◌≢◌ ns → first_repeated ns ≡ None
none-from_distinct ns distinct = none-find (is_repeated ns) 0 (length ns) (λ k inside.
    let start : 0 + k ≡ k = omega arith in
    ap (is_repeated ns) start ∙ list_any_none (λ n. n == get_or ns k 0) (take k ns) (λ i d within.
    let before : i < k = omega (arith, length-take k ns) in
    let value : get_or (take k ns) i d ≡ get_or ns i d = get_or-take k ns i d before in
    let zero' : get_or ns k d ≡ get_or ns k 0 = get_or_default_zero ns k d inside in
    let apart : get_or ns i d ≢ get_or ns k d = distinct i k d before inside in
    let unlike : get_or (take k ns) i d ≢ get_or ns k 0 = λ same. apart (sym value ∙ same ∙ sym zero') in
    grind (arith, nat_tests)))
