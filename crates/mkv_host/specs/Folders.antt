-- The folder of a file, by its name.
use Rattle.std.specs.Prelude.{ℕ, List, [], ◌∷◌, Option, Some, None, codes}
use Rattle.std.specs.Path.{path_parent}

-- the folder as it is opened: `.` if a name has none; the argument is the folder in the name, if any. `folder_in` uses it.
abbrev pub or_here : Option (List ℕ) → List ℕ
or_here None = codes "."
or_here (Some []) = codes "."
or_here (Some (first ∷ rest)) = first ∷ rest

-- the folder that contains the file `name`, for the contract of `folder_of`
abbrev pub folder_in : List ℕ → List ℕ
folder_in name = or_here (path_parent name)
