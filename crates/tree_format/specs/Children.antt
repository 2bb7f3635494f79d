-- Several changes of a tree's children in sequence.
use Rattle.std.specs.Prelude.{ℕ, List, [], ◌∷◌, Option, Some, None}
use Rattle.ebml_numbers.specs.Number.{uint_octets}
use Rattle.tree_format.specs.Node.{Node, leaf, children, with_children}
use Rattle.tree_format.specs.Changes.{without, with_child}

-- a new Element with the ID `id` and the unsigned integer `value` in the fewest bytes. The contract of the function with this name promises it.
abbrev pub uint_leaf : ℕ → ℕ → Node
uint_leaf id value = leaf id 0 (uint_octets value)

-- the master `tree` with `child` in place of its first child with that ID, or after the others if there is none. Other children with that ID are
-- removed. Edits and merges set values so. Used by `set_each` and others.
abbrev pub set_in : Node → Node → Node
set_in child tree = with_children tree (with_child child (children tree))

-- the master `tree` without its children with the ID `id`. A deleted property of an edit is removed so. Used by `removed_each`.
abbrev pub removed_in : ℕ → Node → Node
removed_in id tree = with_children tree (without id (children tree))

-- the given tree with each of the children in the list set, in sequence, as `set_in` does. A TrackEntry of an output and a cut chapter are made so.
abbrev pub set_each : List Node → Node → Node
set_each [] tree = tree
set_each (child ∷ others) tree = set_each others (set_in child tree)

-- the given tree without its children with any of the IDs in the list. A TrackEntry of an output loses some so. Used by `bare` of `track_records`.
abbrev pub removed_each : List ℕ → Node → Node
removed_each [] tree = tree
removed_each (id ∷ ids) tree = removed_each ids (removed_in id tree)

-- the child that `make` makes of the value, as a list, or no child without a value. Optional values of an output are written so.
abbrev pub given : {A : Type 0} → (A → Node) → Option A → List Node
given make None = []
given make (Some value) = make value ∷ []
