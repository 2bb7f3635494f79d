-- The identifiers of Segments in an output: RFC 9559, sections 5.1.2 (Info) and 17 (Linked Segments). Their choice is this project's.
use Rattle.std.specs.Prelude.{ℕ, zero, suc, ◌-◌, Bool, if◌then◌else◌, List, [], ◌∷◌, ◌++◌, Option, None}
use Rattle.std.specs.List.{slice_get}
use Rattle.byteorder.specs.Endian.{big_bytes}
use Rattle.mkv_schema.specs.declared.ids.TheConstants.{SEGMENT_UUID, PREV_UUID, NEXT_UUID}
use Rattle.tree_format.specs.Node.{Node, leaf, children, with_children}
use Rattle.tree_format.specs.Children.{given}
use Rattle.remux_plan.specs.declared.uuids.PartUuids.{PartUuids}

-- the SegmentUUID of the output with the number `number`, counted from 1, if `uuids`, the values of `--segment-uid`, has one for it; otherwise None.
-- `uuids_at` uses it.
abbrev pub uuid_at : List ℕ → ℕ → Option ℕ
uuid_at uuids zero = None
uuid_at uuids (suc k) = slice_get uuids k

-- the identifiers in the Info of the output with the number `number`, counted from 1; `uuids` has the values of `--segment-uid`. With `link`
-- (`--link`) they include the ones of the previous and the next output, even if these aren't written. Each output of `merge` has them.
abbrev pub uuids_at : List ℕ → Bool → ℕ → PartUuids
uuids_at uuids link number = record {
  own = uuid_at uuids number;
  before = if link then uuid_at uuids (number - 1) else None;
  next = if link then uuid_at uuids (suc number) else None;
}

-- the Element with the ID `id` and the identifier `uuid` in 16 bytes, the most significant one first. A SegmentUUID, PrevUUID or NextUUID is one.
-- `uuid_elements` uses it.
abbrev pub uuid_leaf : ℕ → ℕ → Node
uuid_leaf id uuid = leaf id 0 (big_bytes 16 uuid)

-- the SegmentUUID, PrevUUID and NextUUID for the identifiers `u` of an output, each only if present. `with_uuids` uses them.
abbrev pub uuid_elements : PartUuids → List Node
uuid_elements u = given (uuid_leaf SEGMENT_UUID) u.own ++ (given (uuid_leaf PREV_UUID) u.before ++ given (uuid_leaf NEXT_UUID) u.next)

-- the list of Elements with `more` after its first one. `with_uuids` uses it for the children of Info.
abbrev pub behind_first : List Node → List Node → List Node
behind_first more [] = []
behind_first more (n ∷ ns) = n ∷ (more ++ ns)

-- the Info `info` of an output with the identifiers `u` after its first child, the TimestampScale. `front_of` uses it for each part.
unfoldable pub with_uuids : PartUuids → Node → Node
with_uuids u info = with_children info (behind_first (uuid_elements u) (children info))
