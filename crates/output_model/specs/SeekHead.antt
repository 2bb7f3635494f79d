-- The reserved area of an output: RFC 9559, sections 5.1.1 (SeekHead Element) and 16 (Segment Position). Its length is this project's.
use Rattle.std.specs.Prelude.{ℕ, ◌+◌, ◌-◌, List, [], ◌∷◌, length, map}
use Rattle.byteorder.specs.Endian.{big_bytes}
use Rattle.ebml_numbers.specs.Number.{id_octets}
use Rattle.mkv_schema.specs.declared.ids.TheConstants.{SEEK_HEAD, SEEK, SEEK_ID, SEEK_POSITION}
use Rattle.output_model.specs.Element.{Element, element, master_element, octets_of, void_element}
use Rattle.output_model.specs.declared.TheConstants.{AREA}
use Rattle.output_model.specs.declared.places.Seek.{Seek}

-- the Seek Element for `s`, an entry of a SeekHead, whose position takes eight bytes. Used by `seek_head` and others.
abbrev pub seek_element : Seek → Element
seek_element s = master_element SEEK (element SEEK_ID (id_octets s.id) ∷ element SEEK_POSITION (big_bytes 8 s.position) ∷ [])

-- the SeekHead with the Seeks `seeks`, the first Element in the area of a finished output. Used by `area_elements`.
abbrev pub seek_head : List Seek → Element
seek_head seeks = master_element SEEK_HEAD (map seek_element seeks)

-- the area at the start of an output's Segment, once it is finished: the SeekHead with `seeks`, and a Void that fills the rest. Used by `layout` and
-- others.
abbrev pub area_elements : List Seek → List Element
area_elements seeks = seek_head seeks ∷ void_element (AREA - length (octets_of (seek_head seeks))) ∷ []

-- the area at the start of an output's Segment while it is being written and its positions aren't known: one Void; for `opened_with` and the contract
-- of `head_octets`
abbrev pub open_area : List Element
open_area = void_element AREA ∷ []

-- the Seeks for the given Elements in sequence, the first at the offset `position` in the Segment's content, in bytes. Used by `seeks_of` and others.
abbrev pub seeks_from : ℕ → List Element → List Seek
seeks_from position [] = []
seeks_from position (e ∷ es) = record { id = e.id; position = position } ∷ seeks_from (position + length (octets_of e)) es
