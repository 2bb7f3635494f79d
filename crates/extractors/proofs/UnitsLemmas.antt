-- The units or segments of a frame, written in sequence.
use Rattle.std.proofs.Common.{◌≡◌, ℕ, true, false, List, [], ◌∷◌, ◌++◌, Option, None, Some, is_some, unwrap_or, refl, sym, ◌∙◌, ap, arith}
use Rattle.std.specs.List.{flat_map}
use Rattle.std.specs.Option.{option_map}
use Rattle.elementary.specs.Units.{unit_at, units_of}
use Rattle.elementary.specs.Avc.{annex_b, byte_stream, start_coded}
use Rattle.elementary.specs.Pgs.{segment_at, segments_of}
use Rattle.elementary.proofs.UnitsLemmas.{join-step, units_of-nil, units_of-step, units_of-stop}
use Rattle.elementary.proofs.SegmentsLemmas.{segments-step, segments_of-nil, segments_of-step, segments_of-stop}
use Rattle.extractors.specs.Walks.{segmented}

-- Without pieces nothing is written.
no_join : (spell : List ℕ → List ℕ) (pieces : Option (List (List ℕ))) → is_some pieces ≡ false → unwrap_or (option_map (flat_map spell) pieces) [] ≡ []
no_join spell None is = refl
no_join spell (Some pieces) is = absurd (cc)

-- The first piece is written before the others; `spell` is the form of a piece.
first : (spell : List ℕ → List ℕ) (piece : List ℕ) (pieces : Option (List (List ℕ))) → is_some pieces ≡ true → unwrap_or (option_map (flat_map spell) (option_map (λ ps. piece ∷ ps) pieces)) [] ≡ spell piece ++ unwrap_or (option_map (flat_map spell) pieces) []
first spell piece None is = absurd (cc)
first spell piece (Some pieces) is = refl

-- ---- units

-- A frame that isn't a join of units writes nothing.
pub units-bad : (w : ℕ) (frame : List ℕ) → is_some (units_of w frame) ≡ false → unwrap_or (annex_b w frame) [] ≡ []
units-bad w frame bad = no_join start_coded (units_of w frame) bad

-- The first unit is written after a start code, and then the units after it.
pub units-next : (w : ℕ) (frame unit behind : List ℕ) → unit_at w frame ≡ Some (unit, behind) → is_some (units_of w frame) ≡ true → unwrap_or (annex_b w frame) [] ≡ start_coded unit ++ unwrap_or (annex_b w behind) []
units-next w frame unit behind found join =
    ap (λ (units : Option (List (List ℕ))). unwrap_or (option_map byte_stream units) []) (units_of-step w frame unit behind found)
    ∙ first start_coded unit (units_of w behind) (sym (join-step w frame unit behind found) ∙ join)

-- Without a first unit nothing more is written.
pub units-none : (w : ℕ) (frame : List ℕ) → unit_at w frame ≡ None → unwrap_or (annex_b w frame) [] ≡ []
units-none w [] none = ap (λ (units : Option (List (List ℕ))). unwrap_or (option_map byte_stream units) []) (units_of-nil w)
units-none w (octet ∷ octets) none = ap (λ (units : Option (List (List ℕ))). unwrap_or (option_map byte_stream units) []) (units_of-stop w (octet ∷ octets) (omega arith) none)

-- ---- segments

-- A frame that isn't a join of segments writes nothing.
pub segments-bad : (header frame : List ℕ) → is_some (segments_of frame) ≡ false → segmented header frame ≡ []
segments-bad header frame bad = no_join (λ segment. header ++ segment) (segments_of frame) bad

-- The first segment is written after the header, and then the segments after it.
pub segments-next : (header frame segment behind : List ℕ) → segment_at frame ≡ Some (segment, behind) → is_some (segments_of frame) ≡ true → segmented header frame ≡ (header ++ segment) ++ segmented header behind
segments-next header frame segment behind found join =
    ap (λ (segments : Option (List (List ℕ))). unwrap_or (option_map (flat_map (λ each. header ++ each)) segments) []) (segments_of-step frame segment behind found)
    ∙ first (λ each. header ++ each) segment (segments_of behind) (sym (segments-step frame segment behind found) ∙ join)

-- Without a first segment nothing more is written.
pub segments-none : (header frame : List ℕ) → segment_at frame ≡ None → segmented header frame ≡ []
segments-none header [] none = ap (λ (segments : Option (List (List ℕ))). unwrap_or (option_map (flat_map (λ each. header ++ each)) segments) []) segments_of-nil
segments-none header (octet ∷ octets) none =
    ap (λ (segments : Option (List (List ℕ))). unwrap_or (option_map (flat_map (λ each. header ++ each)) segments) []) (segments_of-stop (octet ∷ octets) (omega arith) none)
