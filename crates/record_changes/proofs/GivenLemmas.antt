-- The output's numbers for identifiers.
use Rattle.std.proofs.Common.{◌≡◌, ◌≢◌, ◌<◌, ℕ, zero, suc, ◌+◌, ◌==◌, Bool, true, false, not, ◌&&◌, ◌||◌, if◌then◌else◌, List, [], ◌∷◌, ◌++◌, length, All, get_or, refl, sym, ap, ap₂, subst, ◌∙◌, arith, append-nil, append_assoc, length-append}
use Rattle.std.specs.List.{list_any}
use Rattle.std.proofs.Math.Seq.{get_or-append_seam}
use Rattle.std.proofs.lemmas.Bool.Decides.{nat_tests}
use Rattle.std.proofs.lemmas.List.{get_or_append_left}
use Rattle.std.proofs.lemmas.List.Elements.{All-nil, All-cons, All-head, All-tail, All-push, All-get_or}
use Rattle.std.proofs.lemmas.List.Folds.{list_any-append}
use Rattle.std.proofs.lemmas.List.Quantifiers.{all_pairs_push}
use Rattle.record_changes.specs.Identifiers.{is_free, smallest_free, number_for, renumbered_from, AreSettled}
use Rattle.record_changes.specs.Laws.{NumbersSettle, NumbersFit}
use Rattle.record_changes.proofs.FreeLemmas.{smallest-free}

-- ---- free numbers

-- A number that isn't in either list isn't in the second.
free-second : (a b : List ℕ) (n : ℕ) → is_free (a ++ b) n ≡ true → is_free b n ≡ true
free-second a b n free = split (list_any (λ m. n == m) a) (list_any (λ m. n == m) b) (sym (ap not (list_any-append (λ m. n == m) a b)) ∙ free)
  where
    split : (s t : Bool) → not (s || t) ≡ true → not t ≡ true
    split true t is = absurd (cc)
    split false t is = is

-- A free number is at no index of the list.
free-apart : (ids : List ℕ) (n : ℕ) → is_free ids n ≡ true → (k d : ℕ) → k < length ids → get_or ids k d ≡ n → ⊥
free-apart [] n free k d inside same = absurd (omega arith)
free-apart (m ∷ ids) n free k d inside same = split (n == m) refl free (λ left k inside same. free-apart ids n left k d inside same) k inside same
  where
    split : (b : Bool) → (n == m) ≡ b → not (b || list_any (λ m. n == m) ids) ≡ true → (is_free ids n ≡ true → (k : ℕ) → k < length ids → get_or ids k d ≡ n → ⊥)
        → (k : ℕ) → k < length (m ∷ ids) → get_or (m ∷ ids) k d ≡ n → ⊥
    split true is left rest k inside same = absurd (cc)
    split false is left rest zero inside same = grind (arith, nat_tests)
    split false is left rest (suc k) inside same = rest left k (omega arith) same

apart-free : (ids : List ℕ) (n : ℕ) → ((k : ℕ) → k < length ids → get_or ids k 0 ≡ n → ⊥) → is_free ids n ≡ true
apart-free [] n apart = refl
apart-free (m ∷ ids) n apart = split (n == m) refl (apart-free ids n (λ k inside. apart (suc k) (omega arith)))
  where
    split : (b : Bool) → (n == m) ≡ b → is_free ids n ≡ true → not (b || list_any (λ m. n == m) ids) ≡ true
    split true is rest = let same : m ≡ n = grind (arith, nat_tests) in absurd (apart 0 (omega arith) same)
    split false is rest = rest

-- ---- each number

-- The number `n` is positive, and not in `given`.
pub record IsGood (given : List ℕ) (n : ℕ) : Type 0 where
  pub positive : 0 < n
  pub free : is_free given n ≡ true

pub good-number : (source given : List ℕ) (id : ℕ) → IsGood given (number_for source given id)
good-number source given id = split (id == 0) (is_free given id) refl refl
  where
    new : IsGood given (smallest_free (source ++ given))
    new = record { positive = smallest-free.positive (source ++ given); free = free-second source given _ (smallest-free.free (source ++ given)) }

    split : (a b : Bool) → (id == 0) ≡ a → is_free given id ≡ b → IsGood given (if not a && b then id else smallest_free (source ++ given))
    split false true zero_is free_is = record { positive = grind (arith, nat_tests); free = free_is }
    split false false zero_is free_is = new
    split true b zero_is free_is = new

pub length-from : (source given ids : List ℕ) → length (renumbered_from source given ids) ≡ length ids
length-from source given [] = refl
length-from source given (id ∷ ids) = ap suc (length-from source (given ++ number_for source given id ∷ []) ids)

-- ---- numbers are positive and distinct

settled-push : (given : List ℕ) (n : ℕ) → AreSettled given → IsGood given n → AreSettled (given ++ n ∷ [])
settled-push given n settled good = record {
  positive = All-push (λ id. 0 < id) given n settled.positive good.positive;
  distinct = all_pairs_push ◌≢◌ given n settled.distinct (λ k d inside. free-apart given n good.free k d inside);
}

settled-from : (source given ids : List ℕ) → AreSettled given → AreSettled (given ++ renumbered_from source given ids)
settled-from source given [] settled = subst AreSettled (sym (append-nil given)) settled
settled-from source given (id ∷ ids) settled =
    let n : ℕ = number_for source given id in
    subst AreSettled (append_assoc given (n ∷ []) (renumbered_from source (given ++ n ∷ []) ids))
    (settled-from source (given ++ n ∷ []) ids (settled-push given n settled (good-number source given id)))

none-settled : AreSettled []
none-settled = record { positive = All-nil (λ id. 0 < id); distinct = λ i j d below inside. absurd (omega arith) }

-- ---- such numbers stay unchanged

-- The number after others, all positive and distinct, is positive and new.
good-next : (given : List ℕ) (id : ℕ) (ids : List ℕ) → AreSettled (given ++ id ∷ ids) → IsGood given id
good-next given id ids settled =
    let long : length (given ++ id ∷ ids) ≡ length given + suc (length ids) = length-append given (id ∷ ids) in
    let at : get_or (given ++ id ∷ ids) (length given) 0 ≡ id = get_or-append_seam given id ids 0 in
    let P : ℕ → Type 0 = λ n. 0 < n in
    record {
      positive = subst P at (All-get_or (λ id. 0 < id) (given ++ id ∷ ids) (length given) 0 (omega arith) settled.positive);
      free = apart-free given id (λ k inside same.
          settled.distinct k (length given) 0 inside (omega arith) (get_or_append_left given (id ∷ ids) 0 k inside ∙ same ∙ sym at));
    }

stays-from : (source given ids : List ℕ) → AreSettled (given ++ ids) → renumbered_from source given ids ≡ ids
stays-from source given [] settled = refl
stays-from source given (id ∷ ids) settled =
    let good = good-next given id ids settled in
    let kept : number_for source given id ≡ id = own (id == 0) (is_free given id) refl good.free good.positive in
    ap₂ (λ (n : ℕ) ns. n ∷ ns) kept
    (ap (λ n. renumbered_from source (given ++ n ∷ []) ids) kept
    ∙ stays-from source (given ++ id ∷ []) ids (subst AreSettled (sym (append_assoc given (id ∷ []) ids)) settled))
  where
    own : (a b : Bool) → (id == 0) ≡ a → b ≡ true → 0 < id → (if not a && b then id else smallest_free (source ++ given)) ≡ id
    own true b is free some = absurd (grind (arith, nat_tests))
    own false true is free some = refl
    own false false is free some = absurd (cc)

pub numbers-settle : NumbersSettle
numbers-settle = record {
  each = λ ids. length-from ids [] ids;
  settled = λ ids. settled-from ids [] ids none-settled;
  stays = λ ids settled. stays-from ids [] ids settled;
}

-- ---- numbers stay below the limit

fits-from : (source given ids : List ℕ) (most : ℕ) → All (λ n. n < most) ids → length source + length given + length ids < most → All (λ n. n < most) (renumbered_from source given ids)
fits-from source given [] most small few = All-nil (λ n. n < most)
fits-from source given (id ∷ ids) most small few =
    All-cons (λ n. n < most) n (renumbered_from source (given ++ n ∷ []) ids) (one (not (id == 0) && is_free given id))
    (fits-from source (given ++ n ∷ []) ids most (All-tail (λ n. n < most) id ids small) (omega (arith, length-append given (n ∷ []))))
  where
    n : ℕ
    n = number_for source given id

    one : (b : Bool) → (if b then id else smallest_free (source ++ given)) < most
    one true = All-head (λ n. n < most) id ids small
    one false = let least = smallest-free.small (source ++ given) in omega (arith, length-append source given)

pub numbers-fit : NumbersFit
numbers-fit ids most small few = fits-from ids [] ids most small (omega arith)
