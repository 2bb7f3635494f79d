-- Names of files that a command line can give.
use Rattle.std.specs.Prelude.{◌≡◌, ◌≢◌, ℕ, false, List, codes}
use Rattle.word_values.specs.Place.{is_option}

-- The argument `name` can be the name of a file that is read: it doesn't look like an option. For the names in a canonical command line.
abbrev pub IsFileName : List ℕ → Type 0
IsFileName name = is_option name ≡ false

-- The argument `name` can be the file of `merge -J`, or an input of a merge: it doesn't look like an option and isn't `+`. For the inputs in a
-- canonical command line.
pub record IsInputName (name : List ℕ) : Type 0 where
  pub file : IsFileName name
  pub joins : name ≢ codes "+"
