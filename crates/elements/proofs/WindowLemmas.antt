-- The bytes that a window holds are the bytes of the file at its offset.
use Rattle.std.proofs.Common.{◌≡◌, ℕ, ◌+◌, ◌-◌, ◌≤◌, List, length, take, drop, ◌∙◌, ap, arith}
use Rattle.std.proofs.lemmas.List.{take-take, drop-take, drop-drop}
use Rattle.mkv_io.specs.Contents.{octets_from}
use Rattle.mkv_schema.specs.Element.{Setting, element_in, element_at}
use Rattle.mkv_schema.proofs.ElementLemmas.{element_at-front}
use Rattle.elements.specs.Window.{ReadAhead, Holds, HasRange, header_room}

-- A part of the held bytes is a part of the file.
pub octets_from-held : (bytes : List ℕ) (w : ReadAhead) (at len : ℕ) → Holds bytes w → HasRange w at len → octets_from w.octets (at - w.at) len ≡ octets_from bytes at len
octets_from-held bytes w at len holds range =
    ap (λ o. octets_from o (at - w.at) len) holds
    ∙ ap (λ n. take len (drop (at - w.at) (take n (drop w.at bytes)))) count
    ∙ ap (take len) (drop-take (at - w.at) (length w.octets - (at - w.at)) (drop w.at bytes))
    ∙ take-take len (length w.octets - (at - w.at)) (drop (at - w.at) (drop w.at bytes)) (omega (arith, range.from, range.to))
    ∙ ap (take len) (drop-drop (at - w.at) w.at bytes ∙ ap (λ n. drop n bytes) place)
  where
    count : length w.octets ≡ (at - w.at) + (length w.octets - (at - w.at))
    count = omega (arith, range.from, range.to)

    place : w.at + (at - w.at) ≡ at
    place = omega (arith, range.from)

-- The held bytes of the file are enough for a header.
pub element_at-held : (setting : Setting) (bytes : List ℕ) (w : ReadAhead) (octets : List ℕ) (total at end len : ℕ) → Holds bytes w → HasRange w at len → octets ≡ octets_from w.octets (at - w.at) len → total ≡ length bytes → at ≤ end → len ≡ header_room at end → element_in setting octets total at end ≡ element_at setting bytes at end
element_at-held setting bytes w octets total at end len holds range held whole place room =
    ap (λ o. element_in setting o total at end) (held ∙ octets_from-held bytes w at len holds range)
    ∙ ap (λ n. element_in setting (take len (drop at bytes)) n at end) whole
    ∙ element_at-front setting bytes at end len place room
