-- Changes of the list of a master's children.
use Rattle.std.specs.Prelude.{◌≡◌, ℕ, ◌+◌, ◌<◌, ◌==◌, All, false, not, List, [], ◌∷◌, ◌++◌, length, flat_map, take, drop, filter, position, Option, Some, None, IsSome}
use Rattle.tree_format.specs.Node.{Node, id_of}
use Rattle.tree_format.specs.NormalForm.{octets, longest}

-- the children `ns` without the ones with the ID `id`. Children are removed so, and later twins when a child is set.
abbrev pub without : ℕ → List Node → List Node
without id ns = filter (λ n. not (id_of n == id)) ns

-- the children `ns` with `n` at the place `k`, from 0, of the first child with its ID, or at the end. Other children with that ID are removed.
-- `with_child` finds the place.
abbrev pub placed_at : Node → List Node → Option ℕ → List Node
placed_at n ns None = ns ++ n ∷ []
placed_at n ns (Some k) = take k ns ++ n ∷ without (id_of n) (drop (k + 1) ns)

-- the children `ns` with `n` in place of the first child with its ID, or at the end if there is none. Other children with that ID are removed. Values
-- of a master are set so. Used by `set_in`, `ChildrenChange` and others.
abbrev pub with_child : Node → List Node → List Node
with_child n ns = placed_at n ns (position (λ m. id_of m == id_of n) ns)

-- One of the children `ns` has the ID `id`. Setting a child takes no memory then.
abbrev pub HasChild : ℕ → List Node → Type 0
HasChild id ns = IsSome (position (λ m. id_of m == id) ns)

-- The children `ns` have more bytes, as they are written, than the content of an Element may have. Setting and appending a child fails then. Used by
-- `set` of `ebml_tree` and others.
abbrev pub AreTooLong : List Node → Type 0
AreTooLong ns = longest < length (flat_map octets ns)

-- the children in `ns` with the ID `id`, in order. Lists of editions, tags and SimpleTags are taken so. Used by `ChildrenChange`.
abbrev pub part : ℕ → List Node → List Node
part id ns = filter (λ n. id_of n == id) ns

-- None of the children `ns` has the ID `id`. The law `children_change` is about it.
abbrev pub HasNone : ℕ → List Node → Type 0
HasNone id ns = All (λ n. (id_of n == id) ≡ false) ns
