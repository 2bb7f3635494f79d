-- The bytes of an output grow at their end, and are overwritten in the middle.
use Rattle.std.proofs.Common.{◌≡◌, ℕ, zero, suc, ◌+◌, ◌-◌, Bool, true, false, List, ◌∷◌, ◌++◌, length, drop, Option, None, Some, unwrap_or, refl, sym, ap, append_assoc, ◌∙◌, arith}
use Rattle.std.proofs.lemmas.List.{length-append, take_at, drop_at, drop-drop}
use Rattle.std.specs.Option.{option_map}
use Rattle.std.proofs.lemmas.List.Concat.{flat_map-append}
use Rattle.ebml_numbers.specs.Number.{all_ones, id_octets, uint_width, least_size_width}
use Rattle.ebml_numbers.proofs.NumberLemmas.{length-size_octets}
use Rattle.mkv_schema.specs.declared.ids.TheConstants.{SEGMENT}
use Rattle.mkv_io.specs.Contents.{overwritten}
use Rattle.mkv_outputs.specs.Drafts.{patched}
use Rattle.tree_format.specs.Node.{Node}
use Rattle.output_model.specs.Duration.{duration_element}
use Rattle.output_model.specs.Element.{joined, octets_of}
use Rattle.output_model.specs.SeekHead.{open_area, area_elements}
use Rattle.output_model.specs.Document.{Front, Document, attachments_elements, before_duration, children_after_duration, ebml_element, ending_at, front_elements, info_element, tree_element, back_elements, clusters_elements, clusters_at, elements_behind_area, segment_size, seeks_of, unknown_size, opened_with, opened, layout}
use Rattle.cues_seekhead.specs.Front.{body_start, place_of}
use Rattle.cues_seekhead.proofs.FrontLemmas.{file_with-append}
use Rattle.cues_seekhead.specs.Draft.{draft_of, duration_patches, patches_at}
use Rattle.output_model.proofs.DurationLemmas.{info-parts, length-duration}
use Rattle.cues_seekhead.proofs.DurationLemmas.{length-front, patched-append}

-- ---- at the end

pub opened-more : (f : Front) (behind more : List ℕ) → opened_with f behind ++ more ≡ opened_with f (behind ++ more)
opened-more f behind more =
    let front = joined (front_elements (ending_at 0 f)) in
    file_with-append f.webm unknown_size open_area (front ++ behind) more
    ∙ ap (λ w. octets_of (ebml_element f.webm) ++ (id_octets SEGMENT ++ (unknown_size ++ (joined open_area ++ w)))) (append_assoc front behind more)

-- ---- in the middle

-- Bytes in the middle are overwritten by equally many.
overwritten-middle : (front old back now : List ℕ) (at : ℕ) → length front ≡ at → length now ≡ length old → overwritten (front ++ (old ++ back)) at now ≡ front ++ (now ++ back)
overwritten-middle front old back now at is same =
    let behind : drop (at + length now) (front ++ (old ++ back)) ≡ back =
    sym (drop-drop (length now) at (front ++ (old ++ back))) ∙ ap (drop (length now)) (drop_at front (old ++ back) at is) ∙ drop_at old back (length now) (sym same) in
    ap (λ w. w ++ (now ++ drop (at + length now) (front ++ (old ++ back)))) (take_at front (old ++ back) at is)
    ∙ ap (λ w. front ++ (now ++ w)) behind

-- an output with these bytes as size and area
abbrev spelled : Bool → List ℕ → List ℕ → List ℕ → List ℕ
spelled webm size area rest = octets_of (ebml_element webm) ++ (id_octets SEGMENT ++ (size ++ (area ++ rest)))

four : length (id_octets SEGMENT) ≡ 4
unfolding uint_width
four = refl

-- The EBML header, the Segment's ID and its size come first.
header-long : (webm : Bool) → length (octets_of (ebml_element webm)) + 12 ≡ body_start webm
unfolding uint_width least_size_width
header-long true = refl
header-long false = refl

overwritten-size : (webm : Bool) (size now area rest : List ℕ) → length size ≡ 8 → length now ≡ 8 → overwritten (spelled webm size area rest) (body_start webm - 8) now ≡ spelled webm now area rest
overwritten-size webm size now area rest eight is =
    let head = octets_of (ebml_element webm) in
    let id = id_octets SEGMENT in
    ap (λ w. overwritten w (body_start webm - 8) now) (sym (append_assoc head id (size ++ (area ++ rest))))
    ∙ overwritten-middle (head ++ id) size (area ++ rest) now (body_start webm - 8) (omega (arith, length-append head id, four, header-long webm)) (is ∙ sym eight)
    ∙ append_assoc head id (now ++ (area ++ rest))

overwritten-area : (webm : Bool) (size area now rest : List ℕ) → length size ≡ 8 → length area ≡ 256 → length now ≡ 256 → overwritten (spelled webm size area rest) (body_start webm) now ≡ spelled webm size now rest
overwritten-area webm size area now rest eight filled is =
    let head = octets_of (ebml_element webm) in
    let id = id_octets SEGMENT in
    ap (λ w. overwritten w (body_start webm) now) (regroup head id size (area ++ rest))
    ∙ overwritten-middle ((head ++ id) ++ size) area rest now (body_start webm) (omega (arith, length-append (head ++ id) size, length-append head id, four, header-long webm, eight)) (is ∙ sym filled)
    ∙ sym (regroup head id size (now ++ rest))
  where
    regroup : (a b c d : List ℕ) → a ++ (b ++ (c ++ d)) ≡ ((a ++ b) ++ c) ++ d
    regroup a b c d = sym (append_assoc (a ++ b) c d ∙ append_assoc a b (c ++ d))

area-long : length (joined open_area) ≡ 256
unfolding uint_width
area-long = refl

size-long : length unknown_size ≡ 8
size-long = length-size_octets (all_ones 8) 8

-- The length of an open output is the computed one.
pub length-opened : (f : Front) (behind : List ℕ) → length (opened_with f behind) ≡ body_start f.webm + (clusters_at f + length behind)
length-opened f behind =
    let head = octets_of (ebml_element f.webm) in
    let id = id_octets SEGMENT in
    let front = joined (front_elements (ending_at 0 f)) in
    let rest = front ++ behind in
    omega (
      arith,
      length-append head (id ++ (unknown_size ++ (joined open_area ++ rest))),
      length-append id (unknown_size ++ (joined open_area ++ rest)),
      length-append unknown_size (joined open_area ++ rest),
      length-append (joined open_area) rest,
      length-append front behind,
      length-front f 0,
      four,
      area-long,
      size-long,
      header-long f.webm,
    )

-- The length of a finished output is the computed one.
pub length-layout : (d : Document) → length (joined (area_elements (seeks_of d))) ≡ 256 → length (layout d) ≡ body_start d.front.webm + (256 + length (joined (elements_behind_area d)))
length-layout d filled =
    let head = octets_of (ebml_element d.front.webm) in
    let id = id_octets SEGMENT in
    let rest = joined (elements_behind_area d) in
    let size = segment_size (length rest) in
    let area = joined (area_elements (seeks_of d)) in
    omega (
      arith,
      length-append head (id ++ (size ++ (area ++ rest))),
      length-append id (size ++ (area ++ rest)),
      length-append size (area ++ rest),
      length-append area rest,
      four,
      filled,
      length-size_octets (256 + length rest) 8,
      header-long d.front.webm,
    )

-- The elements after the area are in three parts.
pub behind-area : (d : Document) → joined (front_elements d.front) ++ (joined (clusters_elements d.clusters) ++ joined (back_elements d)) ≡ joined (elements_behind_area d)
behind-area d =
    ap (λ w. joined (front_elements d.front) ++ w) (sym (flat_map-append octets_of (clusters_elements d.clusters) (back_elements d)))
    ∙ sym (flat_map-append octets_of (front_elements d.front) (clusters_elements d.clusters ++ back_elements d))

-- The Duration is written over the Void in its place.
duration-written : (webm : Bool) (info : Node) (lasting : Option ℕ) (rest : List ℕ)
    → patched (spelled webm unknown_size (joined open_area) (octets_of (info_element info (option_map (λ known. 0) lasting)) ++ rest)) (duration_patches (body_start webm) (place_of info lasting) (unwrap_or lasting 0))
    ≡ spelled webm unknown_size (joined open_area) (octets_of (info_element info lasting) ++ rest)
duration-written webm info None rest = refl
duration-written webm info (Some zero) rest = refl
duration-written webm info (Some (suc n)) rest =
    let at = body_start webm + (256 + length first) in
    let new = octets_of (duration_element (suc n)) in
    ap (λ w. overwritten w at new) (parts 0)
    ∙ overwritten-middle front old (others ++ rest) new at long (length-duration (suc n) ∙ sym (length-duration 0))
    ∙ sym (parts (suc n))
  where
    first : List ℕ
    first = before_duration info

    others : List ℕ
    others = children_after_duration info

    old : List ℕ
    old = octets_of (duration_element 0)

    head : List ℕ
    head = octets_of (ebml_element webm)

    id : List ℕ
    id = id_octets SEGMENT

    front : List ℕ
    front = (((head ++ id) ++ unknown_size) ++ joined open_area) ++ first

    long : length front ≡ body_start webm + (256 + length first)
    long =
        omega (
          arith,
          length-append (((head ++ id) ++ unknown_size) ++ joined open_area) first,
          length-append ((head ++ id) ++ unknown_size) (joined open_area),
          length-append (head ++ id) unknown_size,
          length-append head id,
          four,
          size-long,
          area-long,
          header-long webm,
        )

    deep : (w : List ℕ) → head ++ (id ++ (unknown_size ++ (joined open_area ++ (first ++ w)))) ≡ front ++ w
    deep w =
        sym (append_assoc (((head ++ id) ++ unknown_size) ++ joined open_area) first w
        ∙ append_assoc ((head ++ id) ++ unknown_size) (joined open_area) (first ++ w)
        ∙ append_assoc (head ++ id) unknown_size (joined open_area ++ (first ++ w))
        ∙ append_assoc head id (unknown_size ++ (joined open_area ++ (first ++ w))))

    parts : (end : ℕ) → spelled webm unknown_size (joined open_area) (octets_of (info_element info (Some end)) ++ rest) ≡ front ++ (octets_of (duration_element end) ++ (others ++ rest))
    parts end =
        let inside = octets_of (duration_element end) in
        ap (λ w. spelled webm unknown_size (joined open_area) (w ++ rest)) (info-parts info end)
        ∙ ap (spelled webm unknown_size (joined open_area)) (append_assoc first (inside ++ others) rest ∙ ap (λ w. first ++ w) (append_assoc inside others rest))
        ∙ deep (inside ++ (others ++ rest))

-- After it, the open output has its Info.
info-written : (d : Document) → patched (opened d) (duration_patches (body_start d.front.webm) (place_of d.front.info d.front.lasting) (unwrap_or d.front.lasting 0)) ≡ spelled d.front.webm unknown_size (joined open_area) (joined (elements_behind_area d))
info-written d =
    let f = d.front in
    let others = joined (tree_element f.tracks ∷ attachments_elements f.attachments) in
    let behind = joined (clusters_elements d.clusters) ++ joined (back_elements d) in
    let spell : List ℕ → List ℕ = spelled f.webm unknown_size (joined open_area) in
    let begun : List ℕ = octets_of (info_element f.info (option_map (λ known. 0) f.lasting)) in
    let done : List ℕ = octets_of (info_element f.info f.lasting) in
    ap (λ w. patched (spell w) (duration_patches (body_start f.webm) (place_of f.info f.lasting) (unwrap_or f.lasting 0))) (append_assoc begun others behind)
    ∙ duration-written f.webm f.info f.lasting (others ++ behind)
    ∙ ap spell (sym (append_assoc done others behind) ∙ behind-area d)

-- The patches turn the open output into the layout.
pub draft-layout : (name : List ℕ) (d : Document) → length (joined (area_elements (seeks_of d))) ≡ 256 → patched (opened d) (draft_of name d).patches ≡ layout d
draft-layout name d filled =
    let webm = d.front.webm in
    let rest = joined (elements_behind_area d) in
    let area = joined (area_elements (seeks_of d)) in
    let size = segment_size (length rest) in
    patched-append (opened d) (duration_patches (body_start webm) (place_of d.front.info d.front.lasting) (unwrap_or d.front.lasting 0)) (patches_at (body_start webm) area size)
    ∙ ap (λ w. overwritten (overwritten w (body_start webm) area) (body_start webm - 8) size) (info-written d)
    ∙ ap (λ w. overwritten w (body_start webm - 8) size) (overwritten-area webm unknown_size (joined open_area) area rest size-long area-long filled)
    ∙ overwritten-size webm unknown_size size area rest size-long (length-size_octets (256 + length rest) 8)
