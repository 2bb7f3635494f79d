-- Texts of the children of a master: RFC 8794, section 7 (EBML Element Types).
use Rattle.std.specs.Prelude.{ℕ, List, [], ◌∷◌, Option, Some, None, unwrap_or}
use Rattle.tree_format.specs.Node.{Node}
use Rattle.tree_format.specs.Values.{text_in}

-- the text of the first child of `tree` with the ID `id`, or no bytes if it is absent. Names and titles in `merge -J` are read so.
abbrev pub text_or_empty : ℕ → Node → List ℕ
text_or_empty id tree = unwrap_or (text_in id tree) []

-- a text, or None if it is empty, so that a title or name without characters is left out of `merge -J`
abbrev pub unless_empty : List ℕ → Option (List ℕ)
unless_empty [] = None
unless_empty (o ∷ os) = Some (o ∷ os)
