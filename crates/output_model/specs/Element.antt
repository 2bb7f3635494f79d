-- Elements as they are written: RFC 8794, sections 5 (Element ID), 6 (Element Data Size) and 7.7 (Master Element).
use Rattle.std.specs.Prelude.{◌≡◌, ◌<◌, ◌≤◌, ℕ, ◌+◌, ◌-◌, nat_le, true, if◌then◌else◌, List, [], ◌∷◌, ◌++◌, length, flat_map, replicate}
use Rattle.ebml_numbers.specs.declared.number.Size.TheVariants.{Known}
use Rattle.ebml_numbers.specs.Number.{is_id, all_ones, id_octets, size_octets, least_size_width, uint_octets}
use Rattle.mkv_schema.specs.declared.ids.TheConstants.{VOID}
use Rattle.mkv_schema.specs.declared.element.Header.{Header}
use Rattle.mkv_schema.specs.Element.{octets_between}
use Rattle.mkv_schema.specs.Elements.{Run}

-- an Element as it is written: its ID, the width in bytes of its size field, and its content. Used by `duration_elements`, `reference_element` and
-- others.
pub record Element : Type 0 where
  pub id : ℕ
  pub width : ℕ
  pub body : List ℕ

-- the bytes of the header of the Element `e`: its ID and its size; for `octets_of` and `header_in_place`
abbrev pub header_of : Element → List ℕ
header_of e = id_octets e.id ++ size_octets (length e.body) e.width

-- the bytes of the Element `e` in a file: its header and its content. Used by `points_in`, `cluster_points` and others.
abbrev pub octets_of : Element → List ℕ
octets_of e = header_of e ++ e.body

-- the bytes of the Elements `es`, in sequence, as in a file or in the content of a master. Used by `group_octets`, `cluster_body` and others.
abbrev pub joined : List Element → List ℕ
joined es = flat_map octets_of es

-- The Element `e` can be written: it has a valid ID, and its width can hold its size, which isn't an unknown one. The laws on reading suppose it.
-- Used by `ElementsAreRead`, `AreWritten` and others.
pub record IsElement (e : Element) : Type 0 where
  pub id_stands : is_id e.id ≡ true
  pub some : 1 ≤ e.width
  pub most : e.width ≤ 8
  pub fits : length e.body < all_ones e.width

-- ---- Elements with the shortest header

-- the Element with the ID `id` and the content `body`, with the shortest size field, as outputs and edits write it
abbrev pub element : ℕ → List ℕ → Element
element id body = record { id = id; width = least_size_width (length body); body = body }

-- the Element with the ID `id` and the unsigned integer `value` in its fewest bytes, as outputs and edits write it. Used by `duration_elements`,
-- `timestamp_element` and others.
abbrev pub uint_element : ℕ → ℕ → Element
uint_element id value = element id (uint_octets value)

-- the master Element with the ID `id` and the children `children`, with the shortest size field
abbrev pub master_element : ℕ → List Element → Element
master_element id children = element id (joined children)

-- a Void of `total` bytes with its header, at least 2 (section 11.3.2, Void Element), for room that an output or an edit reserves. Its size has one
-- byte if that is enough, and otherwise eight.
abbrev pub void_element : ℕ → Element
void_element total =
    if nat_le total 128 then record { id = VOID; width = 1; body = replicate (total - 2) 0 }
    else record { id = VOID; width = 8; body = replicate (total - 9) 0 }

-- ---- its place

-- The content `bytes` of a file has the bytes `octets` at the offset `p`, which is a condition of the laws on reading.
abbrev pub HoldsAt : List ℕ → ℕ → List ℕ → Type 0
HoldsAt bytes p octets = octets_between bytes p (p + length octets) ≡ octets

-- the header that is read of the Element `e` at the offset `p` of a file; the laws on reading cite it. Used by `headers_in_place` and others.
abbrev pub header_in_place : ℕ → Element → Header
header_in_place p e = record { id = e.id; offset = p; body = p + length (header_of e); size = Known (length e.body) }

-- the headers that are read of the given Elements in sequence, from the offset `p` of a file onwards; the laws on reading cite them. Used by
-- `ElementsAreRead`, `AreWritten` and others.
abbrev pub headers_in_place : ℕ → List Element → List Header
headers_in_place p [] = []
headers_in_place p (e ∷ es) = header_in_place p e ∷ headers_in_place (p + length (octets_of e)) es

-- the result `run` of reading Elements, with the headers `hs` before its list; for laws on Elements that are read in two steps
abbrev pub all_in_front : List Header → Run → Run
all_in_front hs run = record { list = hs ++ run.list; damage = run.damage; end = run.end }
