-- A tree's fields as a tree of the definitions.
use Rattle.std.specs.Prelude.{◌≡◌, ◌≤◌, ℕ, ◌+◌, [], true, List, length, flat_map}
use Rattle.ebml_numbers.specs.Number.{is_written_id}
use Rattle.tree_format.specs.Node.{Node, leaf, master, nodes_of, depth_all, deepest}
use Rattle.tree_format.specs.NormalForm.{octets, longest}
use Rattle.ebml_tree.specs.declared.tree.content.Content.{Content}
use Rattle.ebml_tree.specs.declared.tree.content.Content.TheVariants.{Body, Children}

-- the tree of the code with the ID `id`, the offset `at` and the given content, as a tree of the definitions. Contracts see each `Tree` as this.
abbrev pub node_of : ℕ → ℕ → Content → Node
node_of id at (Body body) = leaf id at body.items
node_of id at (Children trees) = master id at (nodes_of trees.items)

-- the children in the content of a tree of the code; none for a leaf. Contracts of `Content` use it.
abbrev pub kids_of : Content → List Node
kids_of (Body body) = []
kids_of (Children trees) = trees.items

-- the bytes of the content of a tree of the code, as it is written in the normal form. `Measured` has their number.
abbrev pub content_of : Content → List ℕ
content_of (Body body) = body.items
content_of (Children trees) = flat_map octets trees.items

-- the number of nested masters of a tree of the code with the given content, itself included; 0 for a leaf. `Measured` has it.
abbrev pub depth_of : Content → ℕ
depth_of (Body body) = 0
depth_of (Children trees) = depth_all (nodes_of trees.items) + 1

-- A tree of the code with the ID `id` and the content `c` can be written. It has `written'` bytes after its header and `depth'` nested masters, both
-- within limits. It holds for each `Tree`.
pub record Measured (id written' depth' : ℕ) (c : Content) : Type 0 where
  pub id_stands : is_written_id id ≡ true
  pub exact : written' ≡ length (content_of c)
  pub most : written' ≤ longest
  pub deep : depth' ≡ depth_of c
  pub not_too_deep : depth' ≤ deepest

-- The content of a tree is a master's: children, possibly none. `Content::push`, `set` and `remove` require it.
abbrev pub IsKids : Content → Type 0
IsKids (Body body) = ⊥
IsKids (Children trees) = Unit {0}

-- The content of a tree is a master's with exactly the children `ns`. Contracts of `Content::push`, `set` and `remove` promise it.
abbrev pub HasKids : Content → List Node → Type 0
HasKids (Body body) ns = ⊥
HasKids (Children trees) ns = trees.items ≡ ns

-- the bytes in the content of a leaf; none for a master. The contract of `Content::body` promises them.
abbrev pub octets_in : Content → List ℕ
octets_in (Body body) = body.items
octets_in (Children trees) = []

-- Both contents of trees are the same: equal bytes of leaves, or equal children of masters. Only proofs use it, for a tree that is copied.
abbrev pub IsSame : Content → Content → Type 0
IsSame (Body a) (Body b) = a.items ≡ b.items
IsSame (Body a) (Children v) = ⊥
IsSame (Children v) (Body b) = ⊥
IsSame (Children v) (Children w) = v.items ≡ w.items
