-- The order of output tracks: tracks that a list of pairs names come first. It is this project's.
use Rattle.std.specs.Prelude.{ℕ, ◌==◌, Bool, not, ◌&&◌, if◌then◌else◌, List, [], ◌∷◌, ◌++◌}

-- The pair `pair` names the output track that the track `key` begins. Both are the index of an input and the index of a track in its Tracks. Used by
-- `in_order`.
abbrev pub names : ℕ × ℕ → ℕ × ℕ → Bool
names pair key = pair.0 == key.0 && pair.1 == key.1

-- The pair `pair` names another output track than the one that the track `key` begins. Used by `in_order`.
abbrev pub names_other : ℕ × ℕ → ℕ × ℕ → Bool
names_other pair key = not (names pair key)

-- those of `items` whose keys pass `test`; `keys` has the keys, one for each item. Used by `in_order`.
abbrev pub picked : {A : Type 0} → (ℕ × ℕ → Bool) → List (ℕ × ℕ) → List A → List A
picked test [] items = []
picked test (key ∷ keys) [] = []
picked test (key ∷ keys) (x ∷ items) = if test key then x ∷ picked test keys items else picked test keys items

-- `items` in the order that the pairs `order` give: first the items that the first pair names, then those of the next pairs, and last the others.
-- `keys` has the keys, one for each item. `ordered` uses it for each list of output tracks.
abbrev pub in_order : {A : Type 0} → List (ℕ × ℕ) → List (ℕ × ℕ) → List A → List A
in_order [] keys items = items
in_order (pair ∷ order) keys items = picked (names pair) keys items ++ in_order order (picked (names_other pair) keys keys) (picked (names_other pair) keys items)
