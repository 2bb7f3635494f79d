-- A master that is read whole, as a tree of its Elements: RFC 8794, section 7.7 (Master Element).
use Rattle.std.specs.Prelude.{◌≡◌, ◌<◌, ℕ, ◌+◌, max, Bool, true, false, List, [], ◌∷◌}

-- An Element with its contents. A leaf has its ID, the offset of its header and its bytes. A master has its ID, that offset and its children. A
-- new Element has the offset 0.
mutual
  pub data Node : Type 0 where
    leaf : ℕ → ℕ → List ℕ → Node
    master : ℕ → ℕ → Nodes → Node

  -- the children of a master, as a list
  pub data Nodes : Type 0 where
    none : Nodes
    node : Node → Nodes → Nodes

-- the children `ns` as a list that a node may contain, to build a master of them. Used by `with_children`, `found` and others.
abbrev pub nodes_of : List Node → Nodes
nodes_of [] = none
nodes_of (n ∷ ns) = node n (nodes_of ns)

-- the children of a node as an ordinary list, to read them. Used by `children`.
abbrev pub list_of : Nodes → List Node
list_of none = []
list_of (node n ns) = n ∷ list_of ns

-- the ID of the Element at the root of a tree, with its marker. Used by `without`, `placed_at` and others.
abbrev pub id_of : Node → ℕ
id_of (leaf id at body) = id
id_of (master id at kids) = id

-- the offset in bytes of an Element's header in its file, or 0 for a new Element. Damage is reported there. Used by `told_at`, `failing_child` and
-- others.
abbrev pub offset_of : Node → ℕ
offset_of (leaf id at body) = at
offset_of (master id at kids) = at

-- The tree is a leaf: an Element with a value, and without children. Values and nesting are checked by it. Used by `IsMaster`, `too_deep` and others.
abbrev pub is_leaf : Node → Bool
is_leaf (leaf id at body) = true
is_leaf (master id at kids) = false

-- The tree `n` is a master: an Element that may have children. Changes of children and laws on them require it. Used by `SoundTreesAreReadAgain` and
-- others.
abbrev pub IsMaster : Node → Type 0
IsMaster n = is_leaf n ≡ false

-- the bytes of a leaf; none for a master. Values are read from them. Used by `no_value`, `integer_of` and others.
abbrev pub body_of : Node → List ℕ
body_of (leaf id at body) = body
body_of (master id at kids) = []

-- the children of a master, in their order; none for a leaf. Used by `set_in`, `removed_in` and others.
abbrev pub children : Node → List Node
children (leaf id at body) = []
children (master id at kids) = list_of kids

-- the master with the ID and offset of the given one, and the children `ns` instead of its own; a leaf stays as it is. Changed masters are made so.
-- Used by `set_in`, `removed_in` and others.
abbrev pub with_children : Node → List Node → Node
with_children (leaf id at body) ns = leaf id at body
with_children (master id at kids) ns = master id at (nodes_of ns)

-- the number of Elements of a tree, its root included. It decreases from a tree to its children, so that definitions over trees end.
abbrev mutual
  pub count : Node → ℕ
  count (leaf id at body) = 1
  count (master id at kids) = count_all kids + 1

  pub count_all : Nodes → ℕ
  count_all none = 0
  count_all (node n ns) = count n + count_all ns

-- the number of nested masters of a tree, its root included; 0 for a leaf. It is limited to `deepest`.
abbrev mutual
  pub depth : Node → ℕ
  depth (leaf id at body) = 0
  depth (master id at kids) = depth_all kids + 1

  pub depth_all : Nodes → ℕ
  depth_all none = 0
  depth_all (node n ns) = max (depth n) (depth_all ns)

-- the maximum number of nested masters in a tree, which a reader enforces. Used by `HasRoom`, `too_deep` and others.
abbrev pub deepest : ℕ
deepest = 32

-- The tree `n` may be a child: a master around it isn't nested too deep. Setting and appending a child require it.
abbrev pub HasRoom : Node → Type 0
HasRoom n = depth n < deepest
