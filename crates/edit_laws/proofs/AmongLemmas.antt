-- An item of a list.
use Rattle.std.proofs.Common.{inl, inr, ◌≡◌, ◌⊎◌, Bool, true, false, if◌then◌else◌, List, [], ◌∷◌, ◌++◌, find, All, Some, refl, sym, ◌∙◌, ap, subst}
use Rattle.std.proofs.lemmas.List.Elements.{All-head, All-tail}

abbrev pub IsAmong : {X : Type 0} → List X → X → Type 0
IsAmong [] x = ⊥
IsAmong (y ∷ ys) x = (y ≡ x) ⊎ IsAmong ys x

-- A fact about all items holds for one.
pub all-among : {X : Type 0} (P : X → Type 0) (xs : List X) (x : X) → All P xs → IsAmong xs x → P x
all-among P [] x all among = absurd among
all-among P (y ∷ ys) x all (inl same) = subst P same (All-head P y ys all)
all-among P (y ∷ ys) x all (inr later) = all-among P ys x (All-tail P y ys all) later

pub among-left : {X : Type 0} (xs ys : List X) (x : X) → IsAmong xs x → IsAmong (xs ++ ys) x
among-left [] ys x among = absurd among
among-left (y ∷ xs) ys x (inl same) = inl same
among-left (y ∷ xs) ys x (inr later) = inr (among-left xs ys x later)

pub among-right : {X : Type 0} (xs ys : List X) (x : X) → IsAmong ys x → IsAmong (xs ++ ys) x
among-right [] ys x among = among
among-right (y ∷ xs) ys x among = inr (among-right xs ys x among)

-- The first item that passes a test.
pub first-among : {X : Type 0} (passes : X → Bool) (xs : List X) (x : X) → find passes xs ≡ Some x → IsAmong xs x × (passes x ≡ true)
first-among passes [] x found = absurd (cc)
first-among passes (y ∷ ys) x found = of (first-among passes ys x) (passes y) refl found
  where
    of : (find passes ys ≡ Some x → IsAmong ys x × (passes x ≡ true)) → (test : Bool) → passes y ≡ test → (if test then Some y else find passes ys) ≡ Some x → IsAmong (y ∷ ys) x × (passes x ≡ true)
    of further true own is = let same : y ≡ x = cc in (inl same, sym (ap passes same) ∙ own)
    of further false own is = let rest = further is in (inr rest.0, rest.1)
