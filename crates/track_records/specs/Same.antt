-- Elements that are written as the same bytes, with their contents.
use Rattle.std.specs.Prelude.{◌≡◌, ◌==◌, Bool, true, false, not, ◌&&◌, if◌then◌else◌, List, [], ◌∷◌, filter}
use Rattle.std.specs.Str.{bytes_eq}
use Rattle.tree_format.specs.Node.{Node, Nodes, leaf, master, none, node, id_of, body_of, children}
use Rattle.tree_format.specs.NormalForm.{is_filler}

-- the Elements of `ns` that are written: all but Void and CRC-32. `is_same` compares the others.
abbrev pub without_fillers : List Node → List Node
without_fillers ns = filter (λ n. not (is_filler (id_of n))) ns

-- The Element `first` is the first of `ns` that is written, and `behind` has the ones behind it. The contract of `next_written` promises it.
abbrev pub IsFirstOf : Node → List Node → List Node → Type 0
IsFirstOf first behind ns = without_fillers ns ≡ first ∷ without_fillers behind

-- no Element is left in the list. `are_same` ends with it.
abbrev pub is_end : List Node → Bool
is_end [] = true
is_end (n ∷ ns) = false

-- Two Elements have the same ID, the same data, and the same children in the same order, at every depth. Offsets don't count, and neither do Void and
-- CRC-32 among children. A track that is appended is compared so, if its frames are taken as stored. `are_same` takes the children of the first, and
-- the written ones of the second. Used by `are_kept_alike`.
abbrev mutual
  pub is_same : Node → Node → Bool
  is_same (leaf id at body) n = id == id_of n && bytes_eq body (body_of n) && is_end (without_fillers (children n))
  is_same (master id at kids) n = id == id_of n && bytes_eq [] (body_of n) && are_same kids (without_fillers (children n))

  pub are_same : Nodes → List Node → Bool
  are_same none ns = is_end ns
  are_same (node m ms) [] = is_filler (id_of m) && are_same ms []
  are_same (node m ms) (n ∷ ns) = if is_filler (id_of m) then are_same ms (n ∷ ns) else (is_same m n && are_same ms ns)
