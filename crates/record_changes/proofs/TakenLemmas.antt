-- The numbers that are taken.
use Rattle.std.proofs.Common.{◌≡◌, ◌⊎◌, inl, inr, ◌<◌, ◌≤◌, ℕ, ◌+◌, ◌==◌, nat_eq, Bool, true, false, not, ◌&&◌, ◌||◌, if◌then◌else◌, List, [], ◌∷◌, ◌++◌, length, drop, get_or, refl, sym, ap, ◌∙◌, arith, length-append, append_assoc, add-one, drop-cons}
use Rattle.std.specs.List.{list_any}
use Rattle.std.proofs.lemmas.Bool.Decides.{nat_tests}
use Rattle.std.proofs.lemmas.List.Folds.{list_any-append}
use Rattle.indexmap.specs.IndexSet.{IndexSet, contains, insert_key, IsFromIterResult}
use Rattle.record_changes.specs.Identifiers.{is_free, smallest_free, number_for, renumbered_from, renumbered}
use Rattle.record_changes.proofs.FreeLemmas.{at_least, smallest-is, smallest-free}
use Rattle.record_changes.proofs.GivenLemmas.{good-number}
use Rattle.record_changes.specs.Taken.{is_taken, IsNext}

-- A number is free if it isn't in either set.
pub free-of : {S : Type 0} (source given : IndexSet ℕ S) (n : ℕ) → is_free (source.keys ++ given.keys) n ≡ not (is_taken source given n)
free-of source given n = ap not (list_any-append (λ m. n == m) source.keys given.keys)

module _ {S : Type 0} (source given : IndexSet ℕ S) (n : ℕ) (next : IsNext (is_taken source given) n) where
  -- After a taken number the next one follows.
  pub next-taken : is_taken source given n ≡ true → IsNext (is_taken source given) (n + 1)
  next-taken here = record { positive = omega arith; below = λ k some less. of k some (past k less) }
    where
      past : (k : ℕ) → k < n + 1 → (k < n) ⊎ (k ≡ n)
      past k less = split (k == n) refl
        where
          split : (b : Bool) → (k == n) ≡ b → (k < n) ⊎ (k ≡ n)
          split true is = inr (grind (arith, nat_tests))
          split false is = let other : k ≡ n → ⊥ = λ same. grind (arith, nat_tests) in inl (omega arith)

      of : (k : ℕ) → 0 < k → (k < n) ⊎ (k ≡ n) → is_taken source given k ≡ true
      of k some (inl less) = next.below k some less
      of k some (inr same) = ap (is_taken source given) same ∙ here

  -- A taken number with all smaller ones taken is at most the number of elements.
  pub taken-few : is_taken source given n ≡ true → n ≤ length source.keys + length given.keys
  taken-few here =
      let more = next-taken here in
      let most = at_least n (source.keys ++ given.keys) (λ k some within. free-of source given k ∙ ap not (more.below k some (omega arith))) in
      omega (arith, length-append source.keys given.keys)

-- ---- number of an identifier

-- A free number with all smaller ones taken is the smallest free one.
pub smallest-next : {S : Type 0} (source given : IndexSet ℕ S) (n : ℕ) → IsNext (is_taken source given) n → is_taken source given n ≡ false → smallest_free (source.keys ++ given.keys) ≡ n
smallest-next source given n next free =
    smallest-is (source.keys ++ given.keys) n next.positive (free-of source given n ∙ ap not free) (λ k some below. free-of source given k ∙ ap not (next.below k some below))

pub number-zero : (source given : List ℕ) (id : ℕ) → id ≡ 0 → number_for source given id ≡ smallest_free (source ++ given)
number-zero source given id none = ap (λ t. if not t && is_free given id then id else smallest_free (source ++ given)) (let e : (id == 0) ≡ true = grind (arith, nat_tests) in e)

pub number-old : (source given : List ℕ) (id : ℕ) → list_any (λ m. id == m) given ≡ true → number_for source given id ≡ smallest_free (source ++ given)
number-old source given id old = split (id == 0)
  where
    split : (b : Bool) → (if not b && is_free given id then id else smallest_free (source ++ given)) ≡ smallest_free (source ++ given)
    split true = refl
    split false = ap (λ t. if not t then id else smallest_free (source ++ given)) old

-- ---- numbers in sequence

module _ (source given : List ℕ) (id : ℕ) where
  -- A new number is appended.
  pub number-pushed : insert_key nat_eq given (number_for source given id) ≡ given ++ number_for source given id ∷ []
  number-pushed = of (list_any (λ m. number_for source given id == m) given) (good-number source given id).free
    where
      of : (b : Bool) → not b ≡ true → (if b then given else given ++ number_for source given id ∷ []) ≡ given ++ number_for source given id ∷ []
      of true free = absurd (cc)
      of false free = refl

-- The smallest free number depends only on the numbers in the list.
smallest-same : (a b : List ℕ) → ((n : ℕ) → is_free a n ≡ is_free b n) → smallest_free a ≡ smallest_free b
smallest-same a b same =
    smallest-is a (smallest_free b) (smallest-free.positive b) (same (smallest_free b) ∙ smallest-free.free b) (λ n some below. same n ∙ smallest-free.least b n some below)

number-same : (a b given : List ℕ) (id : ℕ) → ((n : ℕ) → list_any (λ m. n == m) a ≡ list_any (λ m. n == m) b) → number_for a given id ≡ number_for b given id
number-same a b given id same =
    ap (λ s. if not (id == 0) && is_free given id then id else s) (smallest-same (a ++ given) (b ++ given) (λ n.
    ap not (list_any-append (λ m. n == m) a given ∙ ap (λ t. t || list_any (λ m. n == m) given) (same n) ∙ sym (list_any-append (λ m. n == m) b given))))

module _ {S : Type 0} (source : IndexSet ℕ S) (uids : List ℕ) (from : IsFromIterResult nat_eq uids source) where
  pub numbers-next : (old new : List ℕ) (i uid n : ℕ) → i < length uids → uid ≡ get_or uids i 0 → n ≡ number_for source.keys old uid → new ≡ insert_key nat_eq old n
      → old ++ renumbered_from uids old (drop i uids) ≡ renumbered uids → new ++ renumbered_from uids new (drop (i + 1) uids) ≡ renumbered uids
  numbers-next old new i uid n inside at is pushed all =
      let rest : List ℕ = drop (i + 1) uids in
      let own : ℕ = number_for uids old uid in
      let same : n ≡ own = is ∙ number-same source.keys uids old uid from.0 in
      let grown : new ≡ old ++ own ∷ [] = pushed ∙ ap (insert_key nat_eq old) same ∙ number-pushed uids old uid in
      let here : drop i uids ≡ uid ∷ rest = drop-cons uids i 0 inside ∙ rw (add-one, ← at) refl in
      ap (λ l. l ++ renumbered_from uids l rest) grown
      ∙ append_assoc old (own ∷ []) (renumbered_from uids (old ++ own ∷ []) rest)
      ∙ sym (ap (λ l. old ++ renumbered_from uids old l) here)
      ∙ all

module _ {S : Type 0} (source old new : IndexSet ℕ S) (n : ℕ) (pushed : new.keys ≡ insert_key nat_eq old.keys n) where
  -- Taken numbers stay taken.
  pub next-pushed : (least : ℕ) → IsNext (is_taken source old) least → IsNext (is_taken source new) least
  next-pushed least next = record { positive = next.positive; below = λ k some less. still k (list_any (λ m. n == m) old.keys) (ap (λ (ks : List ℕ). list_any (λ m. k == m) ks) pushed) (next.below k some less) }
    where
      still : (k : ℕ) (b : Bool) → contains nat_eq new k ≡ list_any (λ m. k == m) (if b then old.keys else old.keys ++ n ∷ []) → is_taken source old k ≡ true → is_taken source new k ≡ true
      still k true is taken = ap (λ t. contains nat_eq source k || t) is ∙ taken
      still k false is taken = ap (λ t. contains nat_eq source k || t) (is ∙ list_any-append (λ m. k == m) old.keys (n ∷ [])) ∙ more (contains nat_eq source k) (contains nat_eq old k) taken
        where
          more : (s o : Bool) → s || o ≡ true → s || (o || ((k == n) || false)) ≡ true
          more true o is = refl
          more false true is = refl
          more false false is = absurd (cc)

  pub few-pushed : (i : ℕ) → length old.keys ≤ i → length new.keys ≤ i + 1
  few-pushed i few = of (list_any (λ m. n == m) old.keys) (ap length pushed)
    where
      of : (b : Bool) → length new.keys ≡ length (if b then old.keys else old.keys ++ n ∷ []) → length new.keys ≤ i + 1
      of true is = omega arith
      of false is = omega (arith, length-append old.keys (n ∷ []))

-- No positive number is below 1.
pub first-next : (taken : ℕ → Bool) → IsNext taken 1
first-next taken = record { positive = omega arith; below = λ k some less. absurd (omega arith) }
