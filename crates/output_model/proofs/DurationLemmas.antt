-- The bytes of an Info with a Duration.
use Rattle.std.proofs.Common.{◌≡◌, ℕ, zero, suc, pos, ◌+◌, List, ◌++◌, length, flat_map, append_assoc, Option, Some, None, refl, sym, ap, ◌∙◌, arith}
use Rattle.std.proofs.lemmas.List.{length-append}
use Rattle.std.specs.Float.{binary64}
use Rattle.std.specs.Float.Ieee.{of_int, to_bits}
use Rattle.byteorder.specs.Numbers.{length-bytes_high_first}
use Rattle.ebml_numbers.specs.Number.{least_size_width, uint_width}
use Rattle.mkv_schema.specs.declared.ids.TheConstants.{DURATION}
use Rattle.tree_format.specs.Node.{Node, id_of}
use Rattle.tree_format.specs.NormalForm.{header_octets}
use Rattle.output_model.specs.Element.{element, header_of, octets_of}
use Rattle.output_model.specs.declared.TheConstants.{DURATION_LEN}
use Rattle.output_model.specs.Duration.{duration_element, float_octets}
use Rattle.output_model.specs.Document.{before_duration, children_after_duration, children_before_duration, info_element, info_with}

-- A Duration has eleven bytes, as the Void in its place.
pub length-duration : (end : ℕ) → length (octets_of (duration_element end)) ≡ DURATION_LEN
unfolding least_size_width uint_width
length-duration zero = refl
length-duration (suc n) =
    let body : List ℕ = float_octets (suc n) in
    let eight : length body ≡ 8 = length-bytes_high_first 8 (to_bits binary64 (of_int binary64 (pos (suc n)))) in
    length-append (header_of (element DURATION body)) body ∙ ap (λ k. length (header_of (element DURATION body)) + k) eight

-- An Info has its ID with a Duration, too.
pub info-id : (info : Node) (lasting : Option ℕ) → (info_element info lasting).id ≡ id_of info
info-id info None = refl
info-id info (Some end) = refl

-- The length of an Info doesn't depend on the end.
same-body : (info : Node) (a b : ℕ) → length (info_with info (octets_of (duration_element a))) ≡ length (info_with info (octets_of (duration_element b)))
same-body info a b =
    let first = children_before_duration info in
    let others = children_after_duration info in
    omega (
      arith,
      length-duration a,
      length-duration b,
      length-append first (octets_of (duration_element a) ++ others),
      length-append first (octets_of (duration_element b) ++ others),
      length-append (octets_of (duration_element a)) others,
      length-append (octets_of (duration_element b)) others,
    )

-- The bytes of an Info are those before its Duration, the Duration, and the children after it.
pub info-parts : (info : Node) (end : ℕ) → octets_of (info_element info (Some end)) ≡ before_duration info ++ (octets_of (duration_element end) ++ children_after_duration info)
info-parts info end =
    let first = children_before_duration info in
    let inside = octets_of (duration_element end) in
    let others = children_after_duration info in
    ap (λ n. header_octets (id_of info) n ++ (first ++ (inside ++ others))) (same-body info end 0)
    ∙ sym (append_assoc (header_octets (id_of info) (length (info_with info (octets_of (duration_element 0))))) first (inside ++ others))
