-- Lists with elements of any type.
use Rattle.std.specs.Prelude.{Bool, true, false, List, [], ◌∷◌}

-- The given list isn't empty. `merge`, `extract` and `generate` choose their status by it, for lists of damage and of missing tracks.
abbrev pub is_some_of : {A : Type 0} → List A → Bool
is_some_of [] = false
is_some_of (x ∷ xs) = true
