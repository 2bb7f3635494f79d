-- Lists from an index on.
use Rattle.std.proofs.Common.{◌≡◌, ℕ, suc, zero, ◌-◌, ◌<◌, ◌≤◌, get_or, List, [], ◌∷◌, ◌++◌, length, take, drop, Some, refl, ◌∙◌, ap, arith}
use Rattle.std.specs.List.{slice_get}
pub use Rattle.lemmas.proofs.PlainLemmas.{drop-some as drop-at, drop-none as drop-past}

pub take-at : {X : Type 0} (xs : List X) (k : ℕ) (x : X) → slice_get xs k ≡ Some x → take (suc k) xs ≡ take k xs ++ x ∷ []
take-at [] k x is = cc
take-at (y ∷ ys) zero x is = let e : y ≡ x = cc in ap (λ each. each ∷ []) e
take-at (y ∷ ys) (suc k) x is = ap (λ each. y ∷ each) (take-at ys k x is)

pub take-drop : {X : Type 0} (k : ℕ) (xs : List X) → take k xs ++ drop k xs ≡ xs
take-drop zero xs = refl
take-drop (suc k) [] = refl
take-drop (suc k) (x ∷ xs) = ap (λ each. x ∷ each) (take-drop k xs)

-- ---- two lists in sequence

pub get-front : {X : Type 0} (xs ys : List X) (k : ℕ) (x : X) → slice_get xs k ≡ Some x → slice_get (xs ++ ys) k ≡ Some x
get-front [] ys k x is = absurd (cc)
get-front (y ∷ xs) ys zero x is = is
get-front (y ∷ xs) ys (suc k) x is = get-front xs ys k x is

pub get-behind : {X : Type 0} (xs ys : List X) (k : ℕ) → length xs ≤ k → slice_get (xs ++ ys) k ≡ slice_get ys (k - length xs)
get-behind [] ys k past = ap (slice_get ys) (let e : k ≡ k - 0 = omega arith in e)
get-behind (x ∷ xs) ys zero past = absurd (omega arith)
get-behind (x ∷ xs) ys (suc k) past = get-behind xs ys k (omega arith) ∙ ap (slice_get ys) (let e : k - length xs ≡ suc k - suc (length xs) = omega arith in e)

pub get-index : {X : Type 0} (xs : List X) (k : ℕ) (x : X) → k < length xs → slice_get xs k ≡ Some (get_or xs k x)
get-index [] k x inside = absurd (omega arith)
get-index (y ∷ xs) zero x inside = refl
get-index (y ∷ xs) (suc k) x inside = get-index xs k x (omega arith)
