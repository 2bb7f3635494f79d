-- The name of a journal. The rule is this project's.
use Rattle.std.specs.Prelude.{ℕ, List, [], ◌∷◌, ◌++◌, codes}

-- the name of the journal of the file `name`, which has the record of an edit of `propedit` or `reindex` until it is done
abbrev pub sidecar_of : List ℕ → List ℕ
sidecar_of name = name ++ codes ".mkvedit"

-- the names of the file `name` and of its journal, which `info` and `extract` may open
abbrev pub with_sidecar : List ℕ → List (List ℕ)
with_sidecar name = name ∷ sidecar_of name ∷ []
