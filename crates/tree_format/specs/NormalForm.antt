-- The bytes that a tree is written as: RFC 8794, sections 5 (Element ID) and 6 (Element Data Size).
use Rattle.std.specs.Prelude.{ℕ, ◌-◌, ◌^◌, ◌==◌, Bool, ◌||◌, if◌then◌else◌, List, [], ◌++◌, length}
use Rattle.ebml_numbers.specs.Number.{id_octets, size_octets, least_size_width}
use Rattle.mkv_schema.specs.declared.ids.TheConstants.{VOID, CRC_32}
use Rattle.tree_format.specs.Node.{Node, Nodes, leaf, master, none, node}

-- An Element with the ID `id` is Void or CRC-32. They don't describe the content of a master, and aren't written (section 11.3, Global Elements).
abbrev pub is_filler : ℕ → Bool
is_filler id = id == VOID || id == CRC_32

-- the header of an Element with the ID `id` and `size` bytes of content, with the size in the fewest bytes. All Elements of a tree are written with
-- it.
abbrev pub header_octets : ℕ → ℕ → List ℕ
header_octets id size = id_octets id ++ size_octets size (least_size_width size)

-- the bytes of the Element `id` with the body `body`, with the shortest size. Written Elements have them.
abbrev pub element_octets : ℕ → List ℕ → List ℕ
element_octets id body = header_octets id (length body) ++ body

-- the bytes of the Element with the ID `id` and the content `body`, or nothing if it is Void or CRC-32. The normal form of a tree is made of them.
abbrev pub kept_octets : ℕ → List ℕ → List ℕ
kept_octets id body = if is_filler id then [] else element_octets id body

-- the normal form of a tree, in which outputs and edits write it. Headers are as short as possible, Void and CRC-32 are left out at every depth, and
-- each other leaf has its bytes.
abbrev mutual
  pub octets : Node → List ℕ
  octets (leaf id at body) = kept_octets id body
  octets (master id at kids) = kept_octets id (octets_all kids)

  pub octets_all : Nodes → List ℕ
  octets_all none = []
  octets_all (node n ns) = octets n ++ octets_all ns

-- the bytes of a tree after its root's header, as they are written. They are read back as the tree. Used by `KeepsLimits`, `IsReadAgain` and others.
abbrev pub content : Node → List ℕ
content (leaf id at body) = body
content (master id at kids) = octets_all kids

-- the maximum number of bytes after a header: a size of eight bytes whose bits aren't all 1 (section 6.2, Unknown Data Size). Writers stay within it.
-- Used by `AreTooLong`, `KeepsLimits` and others.
abbrev pub longest : ℕ
longest = 2 ^ 56 - 2
