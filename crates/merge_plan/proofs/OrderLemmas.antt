-- Lists in the order that a list of pairs gives.
use Rattle.std.proofs.Common.{◌≡◌, ℕ, suc, ◌+◌, Bool, true, false, not, if◌then◌else◌, List, [], ◌∷◌, ◌++◌, length, map, drop, get_or, ◌<◌, refl, sym, ap, ap₂, ◌∙◌, arith, add-one, append_assoc, drop-cons}
use Rattle.std.specs.List.{All, AllZip}
use Rattle.std.proofs.lemmas.List.{length-append, map-append}
use Rattle.std.proofs.lemmas.List.Elements.{All-nil, All-cons, All-head, All-tail, All-append}
use Rattle.merge_plan.specs.Order.{in_order, names, names_other, picked}

abbrev Keys : Type 0
Keys = List (ℕ × ℕ)

-- ---- items that were picked

module _ {A : Type 0} (test : ℕ × ℕ → Bool) where
  pub picked_nil : (keys : Keys) → picked {A = A} test keys [] ≡ []
  picked_nil [] = refl
  picked_nil (key ∷ keys) = refl

-- The next item is picked if its key passes.
pub picked_next : {A : Type 0} (test : ℕ × ℕ → Bool) (keys : Keys) (xs : List A) (k : ℕ) (d : ℕ × ℕ) (e : A) → k < length keys → k < length xs → (b : Bool) → test (get_or keys k d) ≡ b
    → picked test (drop k keys) (drop k xs) ≡ (if b then get_or xs k e ∷ picked test (drop (k + 1) keys) (drop (k + 1) xs) else picked test (drop (k + 1) keys) (drop (k + 1) xs))
picked_next {A = A} test keys xs k d e inside within b is =
    let first : drop k keys ≡ get_or keys k d ∷ drop (k + 1) keys = drop-cons keys k d inside ∙ rw add-one refl in
    let second : drop k xs ≡ get_or xs k e ∷ drop (k + 1) xs = drop-cons xs k e within ∙ rw add-one refl in
    ap₂ (picked test) first second
    ∙ ap (λ passes. if passes then get_or xs k e ∷ picked test (drop (k + 1) keys) (drop (k + 1) xs) else picked test (drop (k + 1) keys) (drop (k + 1) xs)) is

module _ {A B : Type 0} (test : ℕ × ℕ → Bool) (f : A → B) where
  picked-map : (keys : Keys) (xs : List A) → map f (picked test keys xs) ≡ picked test keys (map f xs)
  picked-map [] xs = refl
  picked-map (key ∷ keys) [] = refl
  picked-map (key ∷ keys) (x ∷ xs) = of (test key) (picked-map keys xs)
    where
      of : (b : Bool) → map f (picked test keys xs) ≡ picked test keys (map f xs)
          → map f (if b then x ∷ picked test keys xs else picked test keys xs) ≡ (if b then f x ∷ picked test keys (map f xs) else picked test keys (map f xs))
      of true rest = ap (λ l. f x ∷ l) rest
      of false rest = rest

module _ {A : Type 0} (P : A → Type 0) (test : ℕ × ℕ → Bool) where
  pub picked-all : (keys : Keys) (xs : List A) → All P xs → All P (picked test keys xs)
  picked-all [] xs all = All-nil P
  picked-all (key ∷ keys) [] all = All-nil P
  picked-all (key ∷ keys) (x ∷ xs) all = of (test key) (picked-all keys xs (All-tail P x xs all))
    where
      of : (b : Bool) → All P (picked test keys xs) → All P (if b then x ∷ picked test keys xs else picked test keys xs)
      of true rest = All-cons P x (picked test keys xs) (All-head P x xs all) rest
      of false rest = rest

module _ {A B : Type 0} (R : A → B → Type 0) (test : ℕ × ℕ → Bool) where
  picked-zip : (keys : Keys) (xs : List A) (ys : List B) → AllZip R xs ys → AllZip R (picked test keys xs) (picked test keys ys)
  picked-zip [] xs ys all = tt
  picked-zip (key ∷ keys) [] [] all = tt
  picked-zip (key ∷ keys) [] (y ∷ ys) all = absurd all
  picked-zip (key ∷ keys) (x ∷ xs) [] all = absurd all
  picked-zip (key ∷ keys) (x ∷ xs) (y ∷ ys) all = of (test key) (picked-zip keys xs ys all.1)
    where
      of : (b : Bool) → AllZip R (picked test keys xs) (picked test keys ys)
          → AllZip R (if b then x ∷ picked test keys xs else picked test keys xs) (if b then y ∷ picked test keys ys else picked test keys ys)
      of true rest = (all.0, rest)
      of false rest = rest

-- As many items as keys are picked.
picked-many : {A B : Type 0} (test : ℕ × ℕ → Bool) (keys : Keys) (xs : List A) (ys : List B) → length xs ≡ length ys → length (picked test keys xs) ≡ length (picked test keys ys)
picked-many test [] xs ys many = refl
picked-many test (key ∷ keys) [] [] many = refl
picked-many test (key ∷ keys) [] (y ∷ ys) many = absurd (omega arith)
picked-many test (key ∷ keys) (x ∷ xs) [] many = absurd (omega arith)
picked-many test (key ∷ keys) (x ∷ xs) (y ∷ ys) many = of (test key) (picked-many test keys xs ys (omega arith))
  where
    of : (b : Bool) → length (picked test keys xs) ≡ length (picked test keys ys)
        → length (if b then x ∷ picked test keys xs else picked test keys xs) ≡ length (if b then y ∷ picked test keys ys else picked test keys ys)
    of true rest = ap suc rest
    of false rest = rest

-- Each item is picked or is another.
picked-both : {A : Type 0} (pair : ℕ × ℕ) (keys : Keys) (xs : List A) → length keys ≡ length xs → length (picked (names pair) keys xs) + length (picked (names_other pair) keys xs) ≡ length xs
picked-both pair [] [] many = refl
picked-both pair [] (x ∷ xs) many = absurd (omega arith)
picked-both pair (key ∷ keys) [] many = absurd (omega arith)
picked-both pair (key ∷ keys) (x ∷ xs) many = of (names pair key) (picked-both pair keys xs (omega arith))
  where
    of : (b : Bool) → length (picked (names pair) keys xs) + length (picked (names_other pair) keys xs) ≡ length xs
        → length (if b then x ∷ picked (names pair) keys xs else picked (names pair) keys xs) + length (if not b then x ∷ picked (names_other pair) keys xs else picked (names_other pair) keys xs) ≡ suc (length xs)
    of true rest = let known = rest in omega arith
    of false rest = let known = rest in omega arith

-- ---- items in order

pub in_order-map : {A B : Type 0} (f : A → B) (order keys : Keys) (xs : List A) → map f (in_order order keys xs) ≡ in_order order keys (map f xs)
in_order-map f [] keys xs = refl
in_order-map f (pair ∷ order) keys xs =
    let left : Keys = picked (names_other pair) keys keys in
    map-append f (picked (names pair) keys xs) (in_order order left (picked (names_other pair) keys xs))
    ∙ ap₂ (λ a b. a ++ b) (picked-map (names pair) f keys xs) (in_order-map f order left (picked (names_other pair) keys xs) ∙ ap (in_order order left) (picked-map (names_other pair) f keys xs))

pub in_order-all : {A : Type 0} (P : A → Type 0) (order keys : Keys) (xs : List A) → All P xs → All P (in_order order keys xs)
in_order-all P [] keys xs all = all
in_order-all P (pair ∷ order) keys xs all =
    let left : Keys = picked (names_other pair) keys keys in
    All-append P (picked (names pair) keys xs) (in_order order left (picked (names_other pair) keys xs)) (picked-all P (names pair) keys xs all)
    (in_order-all P order left (picked (names_other pair) keys xs) (picked-all P (names_other pair) keys xs all))

zip-append : {A B : Type 0} (R : A → B → Type 0) (xs : List A) (ys : List B) (ws : List A) (zs : List B) → AllZip R xs ys → AllZip R ws zs → AllZip R (xs ++ ws) (ys ++ zs)
zip-append R [] [] ws zs all more = more
zip-append R [] (y ∷ ys) ws zs all more = absurd all
zip-append R (x ∷ xs) [] ws zs all more = absurd all
zip-append R (x ∷ xs) (y ∷ ys) ws zs all more = (all.0, zip-append R xs ys ws zs all.1 more)

pub in_order-zip : {A B : Type 0} (R : A → B → Type 0) (order keys : Keys) (xs : List A) (ys : List B) → AllZip R xs ys → AllZip R (in_order order keys xs) (in_order order keys ys)
in_order-zip R [] keys xs ys all = all
in_order-zip R (pair ∷ order) keys xs ys all =
    let left : Keys = picked (names_other pair) keys keys in
    zip-append R (picked (names pair) keys xs) (picked (names pair) keys ys) (in_order order left (picked (names_other pair) keys xs)) (in_order order left (picked (names_other pair) keys ys))
    (picked-zip R (names pair) keys xs ys all) (in_order-zip R order left (picked (names_other pair) keys xs) (picked (names_other pair) keys ys) (picked-zip R (names_other pair) keys xs ys all))

-- No item is lost, and none is added.
pub in_order-length : {A : Type 0} (order keys : Keys) (xs : List A) → length keys ≡ length xs → length (in_order order keys xs) ≡ length xs
in_order-length [] keys xs many = refl
in_order-length {A = A} (pair ∷ order) keys xs many =
    let left : Keys = picked (names_other pair) keys keys in
    let others : List A = picked (names_other pair) keys xs in
    let as_many : length left ≡ length others = picked-many (names_other pair) keys keys xs many in
    let rest : length (in_order order left others) ≡ length others = in_order-length order left others as_many in
    let both = picked-both pair keys xs many in
    length-append (picked (names pair) keys xs) (in_order order left others) ∙ (omega arith)

-- ---- one more pair

pub order_next : {A : Type 0} (pair : ℕ × ℕ) (order keys others_keys : Keys) (first named others new xs : List A) → named ≡ picked (names pair) keys xs → others ≡ picked (names_other pair) keys xs
    → others_keys ≡ picked (names_other pair) keys keys → new ≡ first ++ named → first ++ in_order (pair ∷ order) keys xs ≡ new ++ in_order order others_keys others
order_next pair order keys others_keys first named others new xs is others_are keys_are put =
    sym (append_assoc first (picked (names pair) keys xs) (in_order order (picked (names_other pair) keys keys) (picked (names_other pair) keys xs)))
    ∙ ap₂ (λ l r. l ++ r) (ap (λ l. first ++ l) (sym is) ∙ sym put) (ap₂ (in_order order) (sym keys_are) (sym others_are))
