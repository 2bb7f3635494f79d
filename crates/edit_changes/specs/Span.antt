-- The room of an Element, and the bytes that are written into it: RFC 8794, sections 6 (Element Data Size) and 11.3.2 (Void Element). Giving an
-- Element the room of the Voids after it is this project's rule.
use Rattle.std.specs.Prelude.{ℕ, ◌+◌, ◌-◌, ◌==◌, nat_lt, ◌&&◌, if◌then◌else◌, List, [], ◌∷◌, ◌++◌, length, Option, Some, None, unwrap_or}
use Rattle.mkv_schema.specs.declared.ids.TheConstants.{VOID}
use Rattle.mkv_schema.specs.declared.element.Header.{Header}
use Rattle.mkv_schema.specs.Element.{stated_end}
use Rattle.output_model.specs.Element.{Element, header_of, octets_of, void_element}

-- the offset after the Voids of the list that begin at offset `p` and follow each other; `p` if there is none. `span_of` begins at an Element's end.
abbrev pub behind_voids : ℕ → List Header → ℕ
behind_voids p [] = p
behind_voids p (h ∷ hs) = if h.id == VOID && h.offset == p then behind_voids (stated_end h) hs else behind_voids p hs

-- the room of the Element with header `h`: its length and the Voids directly after it, in bytes; `list` has all headers at level 1. Plans put the new
-- Element there. Used by `part` and `room_of`.
abbrev pub span_of : Header → List Header → ℕ
span_of h list = behind_voids (stated_end h) list - h.offset

-- the header of a Void of `total` bytes in all, at least 2; its body isn't written. It covers what is left of an old Element. `fitted` uses it.
abbrev pub void_header : ℕ → List ℕ
void_header total = header_of (void_element total)

-- the Element `e`, with one byte more for its size, so that it fills one byte that is left. `fitted` uses it.
abbrev pub wider : Element → Element
wider e = record { id = e.id; width = e.width + 1; body = e.body }

-- The bytes that fill a span of `room` bytes with the Element `e`; None if `e` is longer. If one byte is left, the size field takes it. If more are
-- left, the header of a Void follows. A plan writes them over an old Element.
abbrev pub fitted : Element → ℕ → Option (List ℕ)
fitted e room =
    if nat_lt room (length (octets_of e)) then None else
    if room == length (octets_of e) then Some (octets_of e) else
    if room == length (octets_of e) + 1 then Some (octets_of (wider e)) else
    Some (octets_of e ++ void_header (room - length (octets_of e)))

-- The bytes that are written over an old Element with a room of `room` bytes. They are the new Element `e`, or the header of a Void if `e` is longer.
-- The contract of `overwrite_or_void` promises them.
abbrev pub fitted_or_void : Element → ℕ → List ℕ
fitted_or_void e room = unwrap_or (fitted e room) (void_header room)
