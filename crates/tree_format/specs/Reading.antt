-- A master that is read whole, read step by step: RFC 8794, section 7.7 (Master Element). `Order` defines the same over all its Elements at once.
use Rattle.std.specs.Prelude.{ℕ, zero, suc, ◌+◌, ◌-◌, ◌==◌, Bool, ◌&&◌, if◌then◌else◌, List, [], ◌∷◌, length, take, drop, Result, Ok, Err}
use Rattle.mkv_schema.specs.Schema.{is_master, may_stand}
use Rattle.mkv_io.specs.declared.damage.Damage.{Damage}
use Rattle.mkv_io.specs.declared.damage.Kind.{Kind}
use Rattle.mkv_io.specs.declared.damage.Kind.TheVariants.{BadValue, TooMany}
use Rattle.mkv_schema.specs.declared.element.Header.{Header}
use Rattle.mkv_schema.specs.Element.{in_tree, element_in, known, stated_end, damage}
use Rattle.mkv_io.specs.Results.{and_then}
use Rattle.mkv_schema.specs.Value.{is_known_value}
use Rattle.tree_format.specs.Node.{Node, leaf, master, nodes_of, deepest}

-- the header of the Element at the start of `octets`, the rest of a master with the ID `parent`, or the damage there. They are at the offset `p` of a
-- file. Bytes after the master don't count. The contract of reading one Element of a tree promises it.
abbrev pub header_at : ℕ → ℕ → List ℕ → Result Header Damage
header_at parent p octets = element_in (in_tree parent) octets (p + length octets) p (p + length octets)

-- the content of the Element with the header `h`, which is at the start of `octets`, at the offset `p` of a file. Readers of trees take it.
abbrev pub inside : ℕ → Header → List ℕ → List ℕ
inside p h octets = take (known h.size) (drop (h.body - p) octets)

-- the bytes after the Element with the header `h`, which is at the start of `octets`, at the offset `p` of a file. Readers of trees go on there. Used
-- by `listed_from` and `first_then`.
abbrev pub behind : ℕ → Header → List ℕ → List ℕ
behind p h octets = drop (stated_end h - p) octets

-- The schema has `id` as a master under `parent`. Any other Element is a leaf. Readers of trees decide by it. Used by `found`, `grown` and others.
abbrev pub is_master_in : ℕ → ℕ → Bool
is_master_in parent id = may_stand id parent && is_master id

-- an Element that was read as a tree, and the number of Elements that may still follow, as `grown` gives it
pub record Grown : Type 0 where
  pub tree : Node
  pub left : ℕ

-- the Elements of a master's content that were read as trees, and the number of Elements that may still follow, as `grove` gives them
pub record Grove : Type 0 where
  pub trees : List Node
  pub left : ℕ

-- the damage of the kind `kind` at the Element with the ID `id` and the offset `p`, as a result of reading a tree
abbrev pub refused : {A : Type 0} → Kind → ℕ → ℕ → Result A Damage
refused kind id p = Err (damage kind id p)

-- a function that reads the Elements of a master's content. Its arguments are first the number of masters that may be nested in it, and the number of
-- Elements that it may have. Then follow the master's ID, the content's offset in the file, and its bytes. `grown` calls it for a nested master.
abbrev pub Reader : Type 0
Reader = ℕ → ℕ → ℕ → ℕ → List ℕ → Result Grove Damage

-- the master with the header `h` and the children in `g`, which were read, with the number of Elements that may still follow. `grown` ends with it.
abbrev pub as_master : Header → Grove → Result Grown Damage
as_master h g = Ok (record { tree = master h.id h.offset (nodes_of g.trees); left = g.left })

-- the tree of the Element with the header `h` and the content `body` under `parent`, or its damage. It counts as one of the `left` Elements that may
-- follow. A master needs `room` for one more nested master, and a leaf of the schema must be a value of its kind. `read` reads a master's content.
-- The contract of reading one Element promises it.
abbrev pub grown : Reader → ℕ → ℕ → ℕ → Header → List ℕ → Result Grown Damage
grown read room left parent h body =
    if left == 0 then refused TooMany h.id h.offset else
    if is_master_in parent h.id then
    (if room == 0 then refused TooMany h.id h.offset else and_then (read (room - 1) (left - 1) h.id h.body body) (as_master h))
    else if is_known_value parent h.id body then Ok (record { tree = leaf h.id h.offset body; left = left - 1 })
    else refused BadValue h.id h.offset

-- the Elements in `g` with the tree `n` before them. `first_then` ends with it.
abbrev pub with_first : Node → Grove → Result Grove Damage
with_first n g = Ok (record { trees = n ∷ g.trees; left = g.left })

-- the tree of the Element with the header `h` at the start of `octets`, then the trees after it, or the first damage. The other arguments are the
-- ones of `grove`. `grove_within` uses it.
abbrev pub first_then : Reader → ℕ → ℕ → ℕ → ℕ → List ℕ → Header → Result Grove Damage
first_then read room left parent p octets h =
    and_then (grown read room left parent h (inside p h octets)) (λ g.
    and_then (read room g.left parent (stated_end h) (behind p h octets)) (with_first g.tree))

-- the Elements of the content of a master with the ID `parent`, in sequence, or the first damage. The content begins at the offset `p`, and `n`
-- bounds their number. At most `room` masters may be nested in it, and it may have `left` Elements. `grove` bounds it.
unfoldable pub grove_within : ℕ → Reader
grove_within n room left parent p [] = Ok (record { trees = []; left = left })
grove_within zero room left parent p (o ∷ octets) = Ok (record { trees = []; left = left })
grove_within (suc n) room left parent p (o ∷ octets) =
    and_then (header_at parent p (o ∷ octets)) (first_then (grove_within n) room left parent p (o ∷ octets))

-- the Elements of the content `octets` of a master with the ID `parent`, in sequence, or the first damage. The content begins at the offset `p`. At
-- most `room` masters may be nested in it, and it may have `left` Elements. The contract of reading a master's content promises it.
unfoldable pub grove : Reader
grove room left parent p octets = grove_within (length octets) room left parent p octets

-- the master with the ID `id`, its header at the offset `offset`, and the children in `g`. `tree_of` ends with it.
abbrev pub as_root : ℕ → ℕ → Grove → Result Node Damage
as_root id offset g = Ok (master id offset (nodes_of g.trees))

-- the tree of a master with the ID `id`, its header at `offset` and its content, `body`, at `base`, or its first damage. Damage is first in the order
-- of the Elements. The tree may have `nodes` Elements, itself included. The contract of `Tree::parse` promises it.
abbrev pub tree_of : ℕ → ℕ → List ℕ → ℕ → ℕ → Result Node Damage
tree_of id offset body base nodes =
    if nodes == 0 then refused TooMany id offset else
    and_then (grove (deepest - 1) (nodes - 1) id base body) (as_root id offset)
