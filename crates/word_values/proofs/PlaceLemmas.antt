-- The arguments from a number on.
use Rattle.std.proofs.Common.{◌≡◌, ℕ, zero, suc, ◌+◌, List, [], ◌∷◌, drop, refl}
use Rattle.std.specs.Prelude.{slice_get}
pub use Rattle.lemmas.proofs.PlainLemmas.{drop-some as rest_some, drop-none as rest_none}

drop_get : {X : Type 0} (xs : List X) (k : ℕ) → slice_get xs k ≡ slice_get (drop k xs) 0
drop_get [] zero = refl
drop_get [] (suc k) = refl
drop_get (x ∷ xs) zero = refl
drop_get (x ∷ xs) (suc k) = drop_get xs k

-- The next argument is the first of the rest.
pub next_is : {X : Type 0} (xs : List X) (i : ℕ) → slice_get xs (i + 1) ≡ slice_get (drop (i + 1) xs) 0
next_is xs i = drop_get xs (i + 1)
