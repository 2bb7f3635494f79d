-- The SeekHead of a file, and its replacement: RFC 9559, sections 5.1.1 (SeekHead Element) and 16 (Segment Position).
use Rattle.std.specs.Prelude.{ℕ, ◌==◌, nat_lt, Bool, true, false, not, ◌&&◌, if◌then◌else◌, List, ◌++◌, map, filter, flat_map, Option, Some, None, Result, Ok, Err}
use Rattle.std.specs.List.{list_any}
use Rattle.std.specs.Option.{option_map_or, option_and_then}
use Rattle.std.specs.Str.{bytes_eq}
use Rattle.ebml_numbers.specs.Number.{id_octets}
use Rattle.mkv_schema.specs.declared.ids.TheConstants.{SEEK_HEAD, SEEK, SEEK_ID}
use Rattle.mkv_io.specs.declared.damage.Damage.{Damage}
use Rattle.mkv_schema.specs.declared.element.Header.{Header}
use Rattle.mkv_schema.specs.declared.limits.TheConstants.{MAX_MASTER_LEN}
use Rattle.mkv_schema.specs.Element.{known}
use Rattle.mkv_schema.specs.Value.{body_of, first_of}
use Rattle.element_reader.specs.Outline.{FileOutline}
use Rattle.tree_format.specs.declared.limits.TheConstants.{MAX_NODES}
use Rattle.tree_format.specs.Node.{Node, id_of, children}
use Rattle.tree_format.specs.Node as tree
use Rattle.tree_format.specs.NormalForm.{octets}
use Rattle.tree_format.specs.Reading.{tree_of}
use Rattle.tree_format.specs.Values.{first_child}
use Rattle.output_model.specs.Element.{Element, element, joined}
use Rattle.output_model.specs.declared.places.Seek.{Seek}
use Rattle.output_model.specs.SeekHead.{seek_element}

-- A SeekHead of a file: its header and its children, which are Seeks and any others. A plan that moves an Element replaces it. Used by `room_of`,
-- `place_of` and others.
pub record SeekHeadAt : Type 0 where
  pub header : Header
  pub seeks : List Node

-- the SeekHead with the header `h`, if it was read without damage, or else None. `if_sound` uses it.
abbrev pub if_read : Header → Result Node Damage → Option SeekHeadAt
if_read h (Ok n) = Some (record { header = h; seeks = children n })
if_read h (Err d) = None

-- the SeekHead with the header `h` in the content `bytes`. It is None if it is longer than 16 MiB, has too many Elements, or is damaged.
-- `seek_head_of` uses it.
abbrev pub if_sound : List ℕ → Header → Option SeekHeadAt
if_sound bytes h =
    if nat_lt MAX_MASTER_LEN (known h.size) then None
    else if_read h (tree_of h.id h.offset (body_of bytes h) h.body MAX_NODES)

-- the header `h`, if it is before `cluster`, the header of the first Cluster, or there is no Cluster; None otherwise. `seek_head_in` uses it.
abbrev pub before_clusters : Option Header → Header → Option Header
before_clusters cluster h = if option_map_or (λ c. nat_lt h.offset c.offset) cluster true then Some h else None

-- the header of the first SeekHead at level 1 in the outline `o`, if it is before the first Cluster, or else None. `seek_head_of` uses it.
abbrev pub seek_head_in : FileOutline → Option Header
seek_head_in o = option_and_then (before_clusters o.cluster) (first_of SEEK_HEAD o.others)

-- The SeekHead of a file with the content `bytes` and the outline `o`: the first one, if it is before the first Cluster. If it is too long or
-- damaged, the file counts as without one. `writes_of_parts` replaces it.
abbrev pub seek_head_of : List ℕ → FileOutline → Option SeekHeadAt
seek_head_of bytes o = option_and_then (if_sound bytes) (seek_head_in o)

-- Node `n`, a child of the old SeekHead, is a Seek whose first SeekID is exactly the bytes of `id`. `stays` uses it.
abbrev pub is_seek_of : ℕ → Node → Bool
is_seek_of id n =
    id_of n == SEEK && option_map_or (λ c. bytes_eq (tree.body_of c) (id_octets id)) (first_child SEEK_ID n) false

-- Node `n`, a child of the old SeekHead, is copied to the new one: it isn't a Seek of one of `ids`. `seek_head_body` uses it.
abbrev pub stays : List ℕ → Node → Bool
stays ids n = not (list_any (λ id. is_seek_of id n) ids)

-- the body of a new SeekHead, in the normal form. It has `seeks`, the new Seeks of `ids`, and the children in `old` that aren't Seeks of `ids`. `old`
-- has the children of the old SeekHead. The contract of the function with this name promises it.
abbrev pub seek_head_body : List ℕ → List Seek → List Node → List ℕ
seek_head_body ids seeks old = joined (map seek_element seeks) ++ flat_map octets (filter (stays ids) old)

-- a new SeekHead, as an Element that replaces the old one. It has `seeks`, the new Seeks of `ids`, and the children `old` of the old SeekHead that
-- aren't Seeks of `ids`. `seek_head` uses it.
abbrev pub seek_head_with : List ℕ → List Seek → List Node → Element
seek_head_with ids seeks old = element SEEK_HEAD (seek_head_body ids seeks old)
