-- Chains of inputs: an input may be appended to the previous one, and then continues its output tracks. The definitions fit any list with such a
-- test. They are this project's.
use Rattle.std.specs.Prelude.{ℕ, ◌+◌, Bool, if◌then◌else◌, List, [], ◌∷◌, ◌++◌, map, flat_map}
use Rattle.std.specs.List.{slice_get, take_while}
use Rattle.std.specs.Option.{option_to_list}

-- ---- rows: for each input a list of items, one for each of its tracks

-- the items at index `place`, counted from 0, of all `rows` that have one there. Each row has the items of one input. Used for the tracks that
-- continue an output track.
abbrev pub at_place : {A : Type 0} → ℕ → List (List A) → List A
at_place place rows = flat_map (λ row. option_to_list (slice_get row place)) rows

-- for each item of a row, whose first has the index `place`, a list of it and the items there in the next rows, `rows`. Used by `lanes_begun`.
abbrev pub columns_from : {A : Type 0} → ℕ → List A → List (List A) → List (List A)
columns_from place [] rows = []
columns_from place (x ∷ row) rows = (x ∷ at_place place rows) ∷ columns_from (place + 1) row rows

-- ---- output tracks

-- the output tracks that the input `x` begins, before the inputs `xs`, each as its list of items. The inputs that are appended to `x` continue them.
-- If `x` is appended itself, it begins none. `row` gives the items of an input, and `appended` tests whether it is appended.
abbrev pub lanes_begun : {A B : Type 0} → (A → Bool) → (A → List B) → A → List A → List (List B)
lanes_begun appended row x xs = if appended x then [] else columns_from 0 (row x) (map row (take_while appended xs))

-- the output tracks of a list of inputs, each as its list of items, in the order of the tracks that begin them. `appended` tests whether an input is
-- appended, and `row` gives its items. Used for the blocks, the numbers and the links of a merge's output tracks.
abbrev pub lanes_by : {A B : Type 0} → (A → Bool) → (A → List B) → List A → List (List B)
lanes_by appended row [] = []
lanes_by appended row (x ∷ xs) = lanes_begun appended row x xs ++ lanes_by appended row xs
