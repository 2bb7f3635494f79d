-- Orders that name the first items as they are, and orders as permutations.
use Rattle.std.proofs.Common.{◌≡◌, ℕ, zero, suc, Bool, true, false, not, ◌&&◌, if◌then◌else◌, List, [], ◌∷◌, ◌++◌, length, map, take, refl, sym, ap, ap₂, ◌∙◌, arith, eq-eqb}
use Rattle.std.specs.List.{All, zip}
use Rattle.std.specs.List.Sorted.{IsPermutation}
use Rattle.std.proofs.lemmas.List.Elements.{All-head, All-tail}
use Rattle.std.proofs.lemmas.List.Sorted.{IsPermutation-append_right, IsPermutation-cons, IsPermutation-middle, IsPermutation-refl, IsPermutation-sym, IsPermutation-trans}
use Rattle.merge_plan.specs.Order.{in_order, names, names_other, picked}
use Rattle.merge_plan.proofs.OrderLemmas.{in_order-map, picked-all}

abbrev pub Keys : Type 0
Keys = List (ℕ × ℕ)

-- ---- an order that names the first items as they are

-- The pair names no item.
abbrev pub NamesNone : ℕ × ℕ → Keys → Type 0
NamesNone pair keys = All (λ (key : ℕ × ℕ). names pair key ≡ false) keys

-- Each key names its own item alone.
pub data AreApart : Keys → Type 0 where
  none : AreApart []
  next : (key : ℕ × ℕ) (keys : Keys) → NamesNone key keys → AreApart keys → AreApart (key ∷ keys)

names-own : (key : ℕ × ℕ) → names key key ≡ true
names-own key = ap₂ (λ a b. a && b) (eq-eqb key.0 key.0 refl) (eq-eqb key.1 key.1 refl)

module _ {A : Type 0} (pair : ℕ × ℕ) where
  picked-none : (keys : Keys) (xs : List A) → NamesNone pair keys → picked (names pair) keys xs ≡ []
  picked-none [] xs other = refl
  picked-none (key ∷ keys) [] other = refl
  picked-none (key ∷ keys) (x ∷ xs) other =
      ap (λ b. if b then x ∷ picked (names pair) keys xs else picked (names pair) keys xs) (All-head (λ (k : ℕ × ℕ). names pair k ≡ false) key keys other)
      ∙ picked-none keys xs (All-tail (λ (k : ℕ × ℕ). names pair k ≡ false) key keys other)

  picked-rest : (keys : Keys) (xs : List A) → NamesNone pair keys → length keys ≡ length xs → picked (names_other pair) keys xs ≡ xs
  picked-rest [] [] other many = refl
  picked-rest [] (x ∷ xs) other many = absurd (omega arith)
  picked-rest (key ∷ keys) [] other many = refl
  picked-rest (key ∷ keys) (x ∷ xs) other many =
      ap (λ b. if not b then x ∷ picked (names_other pair) keys xs else picked (names_other pair) keys xs) (All-head (λ (k : ℕ × ℕ). names pair k ≡ false) key keys other)
      ∙ ap (λ l. x ∷ l) (picked-rest keys xs (All-tail (λ (k : ℕ × ℕ). names pair k ≡ false) key keys other) (omega arith))

front-next : {A : Type 0} (order : Keys) (key : ℕ × ℕ) (keys : Keys) (x : A) (xs : List A) → NamesNone key keys → length keys ≡ length xs
    → in_order (key ∷ order) (key ∷ keys) (x ∷ xs) ≡ x ∷ in_order order keys xs
front-next {A = A} order key keys x xs other many =
    let own = names-own key in
    let first : picked (names key) (key ∷ keys) (x ∷ xs) ≡ x ∷ [] =
    ap (λ b. if b then x ∷ picked (names key) keys xs else picked (names key) keys xs) own ∙ ap (λ l. x ∷ l) (picked-none key keys xs other) in
    let left : picked (names_other key) (key ∷ keys) (key ∷ keys) ≡ keys =
    ap (λ b. if not b then key ∷ picked (names_other key) keys keys else picked (names_other key) keys keys) own ∙ picked-rest key keys keys other refl in
    let rest : picked (names_other key) (key ∷ keys) (x ∷ xs) ≡ xs =
    ap (λ b. if not b then x ∷ picked (names_other key) keys xs else picked (names_other key) keys xs) own ∙ picked-rest key keys xs other many in
    ap₂ (λ l r. l ++ r) first (ap₂ (in_order order) left rest)

-- An order of the first keys, as they are, changes nothing.
pub in_order-front : {A : Type 0} (n : ℕ) (keys : Keys) (xs : List A) → AreApart keys → length keys ≡ length xs → in_order (take n keys) keys xs ≡ xs
in_order-front zero keys xs apart many = refl
in_order-front (suc n) [] xs none many = refl
in_order-front (suc n) (key ∷ keys) [] (next k ks other apart) many = absurd (omega arith)
in_order-front (suc n) (key ∷ keys) (x ∷ xs) (next k ks other apart) many =
    front-next (take n keys) key keys x xs other (omega arith) ∙ ap (λ l. x ∷ l) (in_order-front n keys xs apart (omega arith))

-- It changes nothing of the items whose keys pass a test, either.
pub in_order-some : {A : Type 0} (n : ℕ) (test : ℕ × ℕ → Bool) (keys : Keys) (xs : List A) → AreApart keys → length (picked test keys keys) ≡ length xs
    → in_order (take n keys) (picked test keys keys) xs ≡ xs
in_order-some zero test keys xs apart many = refl
in_order-some (suc n) test [] xs none many = refl
in_order-some {A = A} (suc n) test (key ∷ keys) xs (next k ks other apart) many = of (test key) xs (λ ys few. in_order-some n test keys ys apart few) many
  where
    own : Keys
    own = picked test keys keys

    others : NamesNone key own
    others = picked-all (λ (k : ℕ × ℕ). names key k ≡ false) test keys keys other

    of : (b : Bool) (ys : List A) → ((zs : List A) → length (picked test keys keys) ≡ length zs → in_order (take n keys) (picked test keys keys) zs ≡ zs)
        → length (if b then key ∷ own else own) ≡ length ys → in_order (key ∷ take n keys) (if b then key ∷ own else own) ys ≡ ys
    of true [] rest many = absurd (omega arith)
    of true (y ∷ ys) rest many = front-next (take n keys) key own y ys others (omega arith) ∙ ap (λ l. y ∷ l) (rest ys (omega arith))
    of false ys rest many =
        ap₂ (λ (l r : List A). l ++ r) (picked-none key own ys others)
        (ap₂ (in_order (take n keys)) (picked-rest key own own others refl) (picked-rest key own ys others many))
        ∙ rest ys many

-- ---- an order loses no item

-- Items that are picked, and the others after them, are all items. As many keys as items are others.
record AreApartItems {A : Type 0} (pair : ℕ × ℕ) (keys : Keys) (xs : List A) : Type 0 where
  all : IsPermutation xs (picked (names pair) keys xs ++ picked (names_other pair) keys xs)
  many : length (picked (names_other pair) keys keys) ≡ length (picked (names_other pair) keys xs)

picked-apart : {A : Type 0} (pair : ℕ × ℕ) (keys : Keys) (xs : List A) → length keys ≡ length xs → AreApartItems pair keys xs
picked-apart pair [] [] many = record { all = IsPermutation-refl []; many = refl }
picked-apart pair [] (x ∷ xs) many = absurd (omega arith)
picked-apart pair (key ∷ keys) [] many = absurd (omega arith)
picked-apart {A = A} pair (key ∷ keys) (x ∷ xs) many = let both = of (names pair key) (picked-apart pair keys xs (omega arith)) in record { all = both.0; many = both.1 }
  where
    some : List A
    some = picked (names pair) keys xs

    others : List A
    others = picked (names_other pair) keys xs

    left : Keys
    left = picked (names_other pair) keys keys

    of : (b : Bool) → AreApartItems pair keys xs
        → IsPermutation (x ∷ xs) ((if b then x ∷ some else some) ++ (if not b then x ∷ others else others)) × (length (if not b then key ∷ left else left) ≡ length (if not b then x ∷ others else others))
    of true rest = (IsPermutation-cons x xs (some ++ others) rest.all, rest.many)
    of false rest = (
      IsPermutation-trans (x ∷ xs) (x ∷ (some ++ others)) (some ++ x ∷ others) (IsPermutation-cons x xs (some ++ others) rest.all)
          (IsPermutation-sym (some ++ x ∷ others) (x ∷ (some ++ others)) (IsPermutation-middle some x others)),
      ap suc rest.many,
    )

pub in_order-permutes : {A : Type 0} (order keys : Keys) (xs : List A) → length keys ≡ length xs → IsPermutation xs (in_order order keys xs)
in_order-permutes [] keys xs many = IsPermutation-refl xs
in_order-permutes {A = A} (pair ∷ order) keys xs many =
    let left : Keys = picked (names_other pair) keys keys in
    let some : List A = picked (names pair) keys xs in
    let others : List A = picked (names_other pair) keys xs in
    let apart = picked-apart pair keys xs many in
    IsPermutation-trans xs (some ++ others) (some ++ in_order order left others) apart.all
    (IsPermutation-append_right some others (in_order order left others) (in_order-permutes order left others apart.many))

-- ---- two lists in one order

pairs-first : {A B : Type 0} (xs : List A) (ys : List B) → length xs ≡ length ys → map (λ (p : A × B). p.0) (zip xs ys) ≡ xs
pairs-first [] ys many = refl
pairs-first (x ∷ xs) [] many = absurd (omega arith)
pairs-first (x ∷ xs) (y ∷ ys) many = ap (λ l. x ∷ l) (pairs-first xs ys (omega arith))

pairs-second : {A B : Type 0} (xs : List A) (ys : List B) → length xs ≡ length ys → map (λ (p : A × B). p.1) (zip xs ys) ≡ ys
pairs-second [] [] many = refl
pairs-second [] (y ∷ ys) many = absurd (omega arith)
pairs-second (x ∷ xs) [] many = absurd (omega arith)
pairs-second (x ∷ xs) (y ∷ ys) many = ap (λ l. y ∷ l) (pairs-second xs ys (omega arith))

pairs-again : {A B : Type 0} (ps : List (A × B)) → zip (map (λ (p : A × B). p.0) ps) (map (λ (p : A × B). p.1) ps) ≡ ps
pairs-again [] = refl
pairs-again (p ∷ ps) = ap (λ l. p ∷ l) (pairs-again ps)

-- Both lists in one order are their pairs in this order.
pub in_order-pairs : {A B : Type 0} (order keys : Keys) (xs : List A) (ys : List B) → length xs ≡ length ys → zip (in_order order keys xs) (in_order order keys ys) ≡ in_order order keys (zip xs ys)
in_order-pairs {A = A} {B = B} order keys xs ys many =
    let ps : List (A × B) = zip xs ys in
    ap₂ zip
    (ap (in_order order keys) (sym (pairs-first xs ys many)) ∙ sym (in_order-map (λ (p : A × B). p.0) order keys ps))
    (ap (in_order order keys) (sym (pairs-second xs ys many)) ∙ sym (in_order-map (λ (p : A × B). p.1) order keys ps))
    ∙ pairs-again (in_order order keys ps)
