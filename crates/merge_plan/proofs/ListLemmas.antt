-- Lists with their next item, and lists of borrowed things.
use Rattle.std.proofs.Common.{◌≡◌, ◌<◌, ℕ, ◌+◌, List, [], ◌∷◌, ◌++◌, length, take, drop, get_or, refl, sym, ap, subst, ◌∙◌, arith, add-one, drop-cons}
use Rattle.std.proofs.lemmas.List.{take_more, map_push, length-map, get_or-map}
use denote.Ref.{Bor}
use Rattle.merge_plan.specs.Lent.{lent}

module _ {X : Type 0} (xs : List X) (i : ℕ) (x : X) (inside : i < length xs) (is : x ≡ get_or xs i x) where
  pub take-next : take (i + 1) xs ≡ take i xs ++ x ∷ []
  take-next = take_more xs i x inside ∙ ap (λ y. take i xs ++ y ∷ []) (sym is)

  pub drop-next : drop i xs ≡ x ∷ drop (i + 1) xs
  drop-next = drop-cons xs i x inside ∙ rw (add-one, ← is) refl

-- ---- borrowed things

pub length-lent : {A : Type 0} (refs : List (Bor A)) → length (lent refs) ≡ length refs
length-lent refs = length-map refs (λ r. r.now)

pub lent-push : {A : Type 0} (refs : List (Bor A)) (r : Bor A) → lent (refs ++ r ∷ []) ≡ lent refs ++ r.now ∷ []
lent-push refs r = map_push (λ r. r.now) refs r

module _ {A : Type 0} (refs : List (Bor A)) (i : ℕ) (r : Bor A) (inside : i < length refs) (is : r ≡ get_or refs i r) where
  lent-inside : i < length (lent refs)
  lent-inside = let same = length-lent refs in omega arith

  lent-at : r.now ≡ get_or (lent refs) i r.now
  lent-at = ap (λ (s : Bor A). s.now) is ∙ sym (get_or-map (λ (s : Bor A). s.now) refs i r r.now inside)

  pub lent-next : drop i (lent refs) ≡ r.now ∷ drop (i + 1) (lent refs)
  lent-next = drop-next (lent refs) i r.now lent-inside lent-at

  pub lent-each : (P : A → Type 0) → ((k : ℕ) (d : A) → k < length (lent refs) → P (get_or (lent refs) k d)) → P r.now
  lent-each P each = subst P (sym lent-at) (each i r.now lent-inside)
