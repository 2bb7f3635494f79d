-- The first element that passes a test.
use Rattle.std.proofs.Common.{◌≡◌, Bool, true, false, List, [], ◌∷◌, map, find, ◌&&◌, Option, Some, None, if◌then◌else◌, refl}
use Rattle.std.specs.Option.{option_map}
use Rattle.std.specs.List.{list_all}
use denote.Ref.{Bor}

-- The first image that passes a test is the image of the first element whose image does.
pub find-map : {A B : Type 0} (f : A → B) (p : B → Bool) (xs : List A) → option_map f (find (λ x. p (f x)) xs) ≡ find p (map f xs)
find-map f p [] = refl
find-map f p (x ∷ xs) =
    elim (p (f x)) as (λ b. option_map f (if b then Some x else find (λ y. p (f y)) xs) ≡ (if b then Some (f x) else find p (map f xs))) [
      | true ↦ refl
      | false ↦ find-map f p xs
    ]

-- Reading through a reference commutes with a function on the value.
pub option_map-map : {A B : Type 0} (f : A → B) (o : Option (Bor A)) → option_map (λ (r : Bor A). f r.now) o ≡ option_map f (option_map (λ (r : Bor A). r.now) o)
option_map-map f None = refl
option_map-map f (Some r) = refl

-- The element that `find` returns passes the test.
pub find-passes : {A : Type 0} (p : A → Bool) (xs : List A) (x : A) → find p xs ≡ Some x → p x ≡ true
find-passes p [] x found = (cc)
find-passes p (y ∷ ys) x found =
    let here : (b : Bool) → p y ≡ b → (if b then Some y else find p ys) ≡ Some x → p x ≡ true =
    λ b. elim b as (λ b. p y ≡ b → (if b then Some y else find p ys) ≡ Some x → p x ≡ true) [
      | true ↦ λ yes same. (cc)
      | false ↦ λ no later. find-passes p ys x later
    ] in
    here (p y) refl found

-- The element that `find` returns passes each test that all elements pass.
pub find-all_pass : {A : Type 0} (q p : A → Bool) (xs : List A) (x : A) → list_all q xs ≡ true → find p xs ≡ Some x → q x ≡ true
find-all_pass q p [] x all found = (cc)
find-all_pass q p (y ∷ ys) x all found =
    let here : (a b : Bool) → q y ≡ a → (a && list_all q ys) ≡ true → (if b then Some y else find p ys) ≡ Some x → q x ≡ true =
    λ a b. elim a as (λ a. q y ≡ a → (a && list_all q ys) ≡ true → (if b then Some y else find p ys) ≡ Some x → q x ≡ true) [
      | false ↦ λ fails all found. (cc)
      | true ↦ elim b as (λ b. q y ≡ true → list_all q ys ≡ true → (if b then Some y else find p ys) ≡ Some x → q x ≡ true) [
        | true ↦ λ passes all found. (cc)
        | false ↦ λ passes all found. find-all_pass q p ys x all found
      ]
    ] in
    here (q y) (p y) refl all found
