-- The smallest free number.
use Rattle.std.proofs.Common.{◌≡◌, ◌⊎◌, inl, inr, ◌<◌, ◌≤◌, ℕ, zero, suc, ◌+◌, ◌==◌, Bool, true, false, not, ◌||◌, cond, List, [], ◌∷◌, length, find, filter, Some, refl, sym, ap, subst, ◌∙◌, arith}
use Rattle.std.specs.Prelude.{unwrap_or}
use Rattle.std.specs.List.{list_any, range_with_len}
use Rattle.std.proofs.lemmas.Bool.Decides.{nat_tests}
use Rattle.record_changes.specs.Identifiers.{is_free, smallest_free}
use Rattle.record_changes.specs.Laws.{SmallestIsFree}

-- ---- search in consecutive numbers

-- `m` is the first of `n` numbers from `a` on that passes.
pub record FoundAt (p : ℕ → Bool) (a n m : ℕ) : Type 0 where
  pub found : find p (range_with_len a n) ≡ Some m
  pub passes : p m ≡ true
  pub from : a ≤ m
  pub within : m < a + n
  pub first : (k : ℕ) → a ≤ k → k < m → p k ≡ false

abbrev NonePasses : (ℕ → Bool) → ℕ → ℕ → Type 0
NonePasses p a n = (k : ℕ) → a ≤ k → k < a + n → p k ≡ false

found-or-none : (p : ℕ → Bool) (a n : ℕ) → ((m : ℕ) × FoundAt p a n m) ⊎ NonePasses p a n
found-or-none p a zero = inr (λ k from within. absurd (omega arith))
found-or-none p a (suc n) = split (p a) refl (found-or-none p (a + 1) n)
  where
    is_a : (k : ℕ) → a ≤ k → k < a + 1 → k ≡ a
    is_a k from within = omega arith

    step : (b : Bool) → p a ≡ b → find p (range_with_len a (suc n)) ≡ cond b (Some a) (find p (range_with_len (a + 1) n))
    step b is = ap (λ t. cond t (Some a) (find p (range_with_len (a + 1) n))) is

    at_a : (k : ℕ) → p a ≡ false → k ≡ a → p k ≡ false
    at_a k is same = ap p same ∙ is

    either : (k : ℕ) → a ≤ k → (k ≡ a) ⊎ (a + 1 ≤ k)
    either k from = split_at (k == a) refl
      where
        split_at : (b : Bool) → (k == a) ≡ b → (k ≡ a) ⊎ (a + 1 ≤ k)
        split_at true is = inl (grind (arith, nat_tests))
        split_at false is = let other : k ≡ a → ⊥ = λ same. grind (arith, nat_tests) in inr (omega arith)

    split : (b : Bool) → p a ≡ b → ((m : ℕ) × FoundAt p (a + 1) n m) ⊎ NonePasses p (a + 1) n → ((m : ℕ) × FoundAt p a (suc n) m) ⊎ NonePasses p a (suc n)
    split true is rest = inl (a, record { found = step true is; passes = is; from = omega arith; within = omega arith; first = λ k from below. absurd (omega arith) })
    split false is (inl f) =
        let at = f.1 in
        let later = at.from in
        let ends = at.within in
        inl (
          f.0,
          record {
            found = step false is ∙ at.found;
            passes = at.passes;
            from = omega arith;
            within = omega arith;
            first = λ k from below. elim (either k from) [ inl same ↦ at_a k is same | inr past ↦ at.first k past below ];
          },
        )
    split false is (inr none) =
        inr (λ k from within. elim (either k from) [ inl same ↦ at_a k is same | inr past ↦ none k past (omega arith) ])

-- ---- a list is at least as long as its distinct numbers

abbrev is_in : List ℕ → ℕ → Bool
is_in xs n = list_any (λ m. n == m) xs

abbrev others : ℕ → List ℕ → List ℕ
others x xs = filter (λ m. not (x == m)) xs

length-others : (x : ℕ) (xs : List ℕ) → length (others x xs) ≤ length xs
length-others x [] = omega arith
length-others x (m ∷ xs) = split (x == m) (length-others x xs)
  where
    split : (b : Bool) → length (others x xs) ≤ length xs → length (cond (not b) (m ∷ others x xs) (others x xs)) ≤ length (m ∷ xs)
    split true rest = omega arith
    split false rest = omega arith

-- Without one number the list is shorter.
fewer-others : (x : ℕ) (xs : List ℕ) → is_in xs x ≡ true → length (others x xs) < length xs
fewer-others x [] here = absurd (cc)
fewer-others x (m ∷ xs) here = split (x == m) here (fewer-others x xs) (length-others x xs)
  where
    split : (b : Bool) → b || is_in xs x ≡ true → (is_in xs x ≡ true → length (others x xs) < length xs) → length (others x xs) ≤ length xs
        → length (cond (not b) (m ∷ others x xs) (others x xs)) < length (m ∷ xs)
    split true is rest most = omega arith
    split false is rest most = let less = rest is in omega arith

-- Another number is still in the list.
in-others : (x k : ℕ) (xs : List ℕ) → (k == x) ≡ false → is_in xs k ≡ true → is_in (others x xs) k ≡ true
in-others x k [] apart here = here
in-others x k (m ∷ xs) apart here = split (x == m) (k == m) refl refl here (in-others x k xs apart)
  where
    split : (b t : Bool) → (x == m) ≡ b → (k == m) ≡ t → t || is_in xs k ≡ true → (is_in xs k ≡ true → is_in (others x xs) k ≡ true)
        → is_in (cond (not b) (m ∷ others x xs) (others x xs)) k ≡ true
    split true true x_is k_is is rest =
        let same : (k == x) ≡ true = grind (arith, nat_tests) in
        absurd (cc)
    split true false x_is k_is is rest = rest is
    split false true x_is k_is is rest = ap (λ b. b || is_in (others x xs) k) k_is
    split false false x_is k_is is rest = ap (λ b. b || is_in (others x xs) k) k_is ∙ rest is

-- A list with each positive number up to `n` has at least `n` numbers.
pub at_least : (n : ℕ) (xs : List ℕ) → ((k : ℕ) → 0 < k → k ≤ n → is_free xs k ≡ false) → n ≤ length xs
at_least zero xs there = omega arith
at_least (suc n) xs there =
    let here : is_in xs (suc n) ≡ true = is-in (suc n) (there (suc n) (omega arith) (omega arith)) in
    let less = fewer-others (suc n) xs here in
    let rest : n ≤ length (others (suc n) xs) = at_least n (others (suc n) xs) (λ k some most. free-not k (in-others (suc n) k xs (below k most) (is-in k (there k some (omega arith))))) in
    omega arith
  where
    is-in : (k : ℕ) → is_free xs k ≡ false → is_in xs k ≡ true
    is-in k not_free = split (is_in xs k) not_free
      where
        split : (b : Bool) → not b ≡ false → b ≡ true
        split true is = refl
        split false is = absurd (cc)

    below : (k : ℕ) → k ≤ n → (k == suc n) ≡ false
    below k most = grind (arith, nat_tests)

    free-not : (k : ℕ) → is_in (others (suc n) xs) k ≡ true → is_free (others (suc n) xs) k ≡ false
    free-not k is = ap not is

-- ---- smallest free number

pub record IsSmallest (taken : List ℕ) (m : ℕ) : Type 0 where
  pub is : smallest_free taken ≡ m
  pub positive : 0 < m
  pub free : is_free taken m ≡ true
  pub least : (n : ℕ) → 0 < n → n < m → is_free taken n ≡ false
  pub small : m ≤ length taken + 1

found-smallest : (taken : List ℕ) → (m : ℕ) × IsSmallest taken m
found-smallest taken = of (found-or-none (is_free taken) 1 (length taken + 1))
  where
    of : ((m : ℕ) × FoundAt (is_free taken) 1 (length taken + 1) m) ⊎ NonePasses (is_free taken) 1 (length taken + 1) → (m : ℕ) × IsSmallest taken m
    of (inl f) =
        let at = f.1 in
        let from = at.from in
        let within = at.within in (
          f.0,
          record {
            is = ap (λ o. unwrap_or o 0) at.found;
            positive = omega arith;
            free = at.passes;
            least = λ n some below. at.first n (omega arith) below;
            small = omega arith;
          },
        )
    of (inr none) =
        let more : length taken + 1 ≤ length taken = at_least (length taken + 1) taken (λ k some most. none k (omega arith) (omega arith)) in
        absurd (omega arith)

pub smallest-free : SmallestIsFree
smallest-free = record {
  positive = λ taken. let f = found-smallest taken in let P : ℕ → Type 0 = λ m. 0 < m in subst P (sym f.1.is) f.1.positive;
  free = λ taken. let f = found-smallest taken in ap (is_free taken) f.1.is ∙ f.1.free;
  least = λ taken n some below. let f = found-smallest taken in f.1.least n some (let P : ℕ → Type 0 = λ m. n < m in subst P f.1.is below);
  small = λ taken. let f = found-smallest taken in let P : ℕ → Type 0 = λ m. m ≤ length taken + 1 in subst P (sym f.1.is) f.1.small;
}

-- A free number with no smaller free one is the smallest.
pub smallest-is : (taken : List ℕ) (m : ℕ) → 0 < m → is_free taken m ≡ true → ((n : ℕ) → 0 < n → n < m → is_free taken n ≡ false) → smallest_free taken ≡ m
smallest-is taken m some free least = of (smallest_free taken) (smallest-free.positive taken) (smallest-free.free taken) (smallest-free.least taken)
  where
    of : (s : ℕ) → 0 < s → is_free taken s ≡ true → ((n : ℕ) → 0 < n → n < s → is_free taken n ≡ false) → s ≡ m
    of s s_some s_free s_least = split (s == m) refl
      where
        below : s < m → ⊥
        below less = let no = least s s_some less in absurd (cc)

        above : m < s → ⊥
        above less = let no = s_least m some less in absurd (cc)

        split : (b : Bool) → (s == m) ≡ b → s ≡ m
        split true is = grind (arith, nat_tests)
        split false is = let a = below in let b = above in absurd (grind (arith, nat_tests))
