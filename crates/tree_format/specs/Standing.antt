-- Trees that can be written and read back: each Element is at a place that RFC 9559, section 5 (Matroska Schema), allows.
use Rattle.std.specs.Prelude.{◌≡◌, ◌≤◌, ⊤, ℕ, ◌+◌, true, false, if◌then◌else◌, List, length, Ok}
use Rattle.ebml_numbers.specs.Number.{is_id}
use Rattle.mkv_schema.specs.Value.{is_known_value}
use Rattle.tree_format.specs.Node.{Node, Nodes, leaf, master, none, node, id_of, depth, deepest}
use Rattle.tree_format.specs.NormalForm.{is_filler, header_octets, octets, octets_all, content, longest}
use Rattle.tree_format.specs.Reading.{is_master_in, tree_of}
use Rattle.tree_format.specs.Order.{tree_without_limits}

-- A leaf with the ID `id` and the bytes `body` may be a child of `parent`. The ID is valid, the schema has no master with this ID there, and the
-- bytes are a value of its kind. `StandsIn` requires it.
pub record IsLeafIn (parent id : ℕ) (body : List ℕ) : Type 0 where
  pub id_stands : is_id id ≡ true
  pub no_master : is_master_in parent id ≡ false
  pub value : is_known_value parent id body ≡ true

-- The tree may be a child of the given parent: a leaf or a master, as the schema allows. The same is true of all its contents. Setting and appending
-- a child keep a valid master only then.
abbrev mutual
  pub StandsIn : ℕ → Node → Type 0
  StandsIn parent (leaf id at body) = IsLeafIn parent id body
  StandsIn parent (master id at kids) = (is_master_in parent id ≡ true) × AllStandIn id kids

  pub AllStandIn : ℕ → Nodes → Type 0
  AllStandIn parent none = ⊤
  AllStandIn parent (node n ns) = StandsIn parent n × AllStandIn parent ns

-- The tree can be written and read back: each Element in it may be a child of its parent. It holds for trees that were read, and code that changes or
-- writes one keeps it. Used by `SoundTreesAreReadAgain` and `IsSoundOf`.
abbrev pub IsSound : Node → Type 0
IsSound (leaf id at body) = ⊤
IsSound (master id at kids) = AllStandIn id kids

-- The tree `n` has the ID `own`, and can be written and read back. Code that reads an Element of this kind requires it.
pub record IsSoundOf (own : ℕ) (n : Node) : Type 0 where
  pub id : id_of n ≡ own
  pub sound : IsSound n

-- ---- trees that are read back

-- the number of Elements of a tree that are written, so without Void and CRC-32. A reader must allow as many to read it back.
abbrev mutual
  pub kept : Node → ℕ
  kept (leaf id at body) = 1
  kept (master id at kids) = kept_all kids + 1

  pub kept_all : Nodes → ℕ
  kept_all none = 0
  kept_all (node n ns) = if is_filler (id_of n) then kept_all ns else kept n + kept_all ns

-- the tree as it is read back after it was written at the given offset in bytes. Void and CRC-32 are left out, and each Element has its own offset.
abbrev mutual
  pub placed : ℕ → Node → Node
  placed p (leaf id at body) = leaf id p body
  placed p (master id at kids) = master id p (placed_all (p + length (header_octets id (length (octets_all kids)))) kids)

  pub placed_all : ℕ → Nodes → Nodes
  placed_all p none = none
  placed_all p (node n ns) = if is_filler (id_of n) then placed_all p ns else node (placed p n) (placed_all (p + length (octets n)) ns)

-- the master as it is read back with its header at the offset `offset` and its content at `base`. Void and CRC-32 are left out, and each Element has
-- its own offset. `IsReadAgain` and its like compare with it.
abbrev pub placed_in : ℕ → ℕ → Node → Node
placed_in offset base (leaf id at body) = leaf id offset body
placed_in offset base (master id at kids) = master id offset (placed_all base kids)

-- The bytes after the header of the tree `n` fit a size, and it isn't nested too deep. It holds for trees that are read or made. Used by
-- `SoundTreesAreReadAgain` and others.
pub record KeepsLimits (n : Node) : Type 0 where
  pub long : length (content n) ≤ longest
  pub deep : depth n ≤ deepest

-- The written content of the master `n` is read back, with at most `nodes` Elements. The result is the same tree, without Void and CRC-32, and each
-- Element with its own offset. Contracts of `Tree::parse` and of changes promise it.
pub record IsReadAgain (nodes : ℕ) (n : Node) : Type 0 where
  pub read : (offset base : ℕ) → tree_of (id_of n) offset (content n) base nodes ≡ Ok (placed_in offset base n)

-- The written content of the master `n` is read back by a reader without limits on Elements and nesting. The result is the same tree, without Void
-- and CRC-32, and each Element with its own offset. The contract of `Tree::put` promises it.
pub record IsReadWithoutLimits (n : Node) : Type 0 where
  pub read : (offset base : ℕ) → tree_without_limits (id_of n) offset (content n) base ≡ Ok (placed_in offset base n)
