-- The elements before the Clusters.
use Rattle.std.proofs.Common.{◌≡◌, ◌≤◌, Option, List, ℕ, ◌+◌, [], ◌∷◌, ◌++◌, length, map, sum_by, All, true, refl, sym, ap, append_assoc, append-nil, ◌∙◌, arith, Bool}
use Rattle.std.proofs.lemmas.List.{length-append}
use Rattle.std.proofs.lemmas.List.Concat.{flat_map-append}
use Rattle.std.proofs.lemmas.List.Elements.{All-from_recursion, All-append}
use Rattle.std.specs.List.{AllByRecursion}
use Rattle.ebml_numbers.specs.Number.{is_id, id_octets}
use Rattle.mkv_io.specs.LiveFiles.{LiveFiles}
use Rattle.mkv_schema.specs.declared.ids.TheConstants.{SEGMENT, INFO, TRACKS, ATTACHMENTS, ATTACHED_FILE}
use Rattle.tree_format.specs.Node.{Node, id_of, IsMaster}
use Rattle.tree_format.specs.NormalForm.{header_octets}
use Rattle.output_model.specs.Element.{Element, octets_of, joined}
use Rattle.output_model.specs.declared.places.Seek.{Seek}
use Rattle.output_model.specs.SeekHead.{open_area, seeks_from}
use Rattle.output_model.specs.Document.{ebml_element, info_element, lasting_if, tree_element, attachments_elements, front_elements, clusters_at, file_with, unknown_size, opened_with}
use Rattle.output_model.specs.declared.attachment.Attachment.{Attachment}
use Rattle.output_model.specs.Attached.{attached_file}
use Rattle.output_model.specs.declared.front.Front.{Front}
use Rattle.cues_seekhead.specs.Attached.{attached_total, attachments_header, attachments_seeks, HaveData}
use Rattle.cues_seekhead.specs.Front.{front_head, front_seeks, records_of}
use Rattle.output_model.specs.Front.{front_with}
use Rattle.cues_seekhead.specs.Places.{Adds, AreIds}
use Rattle.cues_seekhead.proofs.AttachedLemmas.{attachments-long}
use Rattle.output_model.proofs.DurationLemmas.{info-id}
use Rattle.cues_seekhead.proofs.DurationLemmas.{ending-begun}
use Rattle.cues_seekhead.proofs.PlacesLemmas.{Adds-then, seeks_from-append}

-- The parts of an open output are appended in sequence.
pub head-parts : (e i u v r r' o0 o1 o2 o3 o4 : List ℕ) → o0 ≡ [] → o1 ≡ o0 ++ e → o2 ≡ o1 ++ (i ++ u) → o3 ≡ o2 ++ v → o4 ≡ o3 ++ r' → r' ≡ r
    → o4 ≡ e ++ (i ++ (u ++ ((v ++ []) ++ r)))
head-parts e i u v r r' o0 o1 o2 o3 o4 none one two three four same =
    four ∙ ap (λ w. o3 ++ w) same ∙ ap (λ w. w ++ r) (three ∙ ap (λ w. w ++ v) (two ∙ ap (λ w. w ++ (i ++ u)) (one ∙ ap (λ w. w ++ e) none)))
    ∙ append_assoc (e ++ (i ++ u)) v r ∙ append_assoc e (i ++ u) (v ++ r) ∙ ap (λ w. e ++ w) (append_assoc i u (v ++ r))
    ∙ ap (λ w. e ++ (i ++ (u ++ (w ++ r)))) (sym (append-nil v))

-- Bytes appended to a file follow its last element.
pub file_with-append : (webm : Bool) (size : List ℕ) (area : List Element) (rest more : List ℕ) → file_with webm size area rest ++ more ≡ file_with webm size area (rest ++ more)
file_with-append webm size area rest more =
    let head = octets_of (ebml_element webm) in
    let id = id_octets SEGMENT in
    append_assoc head (id ++ (size ++ (joined area ++ rest))) more
    ∙ ap (λ w. head ++ w) (append_assoc id (size ++ (joined area ++ rest)) more
    ∙ ap (λ w. id ++ w) (append_assoc size (joined area ++ rest) more ∙ ap (λ w. size ++ w) (append_assoc (joined area) rest more)))

-- ---- Attachments

attachments-octets : (files : LiveFiles) (attachments : List Attachment) → All (λ (a : Attachment). IsMaster a.entry) attachments → All (λ (a : Attachment). id_of a.entry ≡ ATTACHED_FILE) attachments → HaveData files attachments
    → attachments_header attachments ++ joined (map tree_element (map (attached_file files) attachments)) ≡ joined (attachments_elements (map (attached_file files) attachments))
attachments-octets files [] masters own have = refl
attachments-octets files (a ∷ attachments) masters own have =
    let inside = joined (map tree_element (map (attached_file files) (a ∷ attachments))) in
    ap (λ k. header_octets ATTACHMENTS k ++ inside) (sym (attachments-long files (a ∷ attachments) masters own have)) ∙ sym (append-nil (header_octets ATTACHMENTS (length inside) ++ inside))

attachments-places : (files : LiveFiles) (attachments : List Attachment) (position : ℕ) → attachments_seeks position attachments ≡ seeks_from position (attachments_elements (map (attached_file files) attachments))
attachments-places files [] position = refl
attachments-places files (a ∷ attachments) position = refl

-- ---- start of an output

-- With the AttachedFiles after it, it is the open output.
pub opening-octets : (files : LiveFiles) (f : Front) → All (λ (a : Attachment). IsMaster a.entry) f.attachments → All (λ (a : Attachment). id_of a.entry ≡ ATTACHED_FILE) f.attachments → HaveData files f.attachments
    → file_with f.webm unknown_size open_area (front_head f) ++ joined (map tree_element (map (attached_file files) f.attachments)) ≡ opened_with (front_with files f) []
opening-octets files f masters own have =
    let inside = joined (map tree_element (map (attached_file files) f.attachments)) in
    let elements = attachments_elements (map (attached_file files) f.attachments) in
    file_with-append f.webm unknown_size open_area (front_head f) inside
    ∙ ap (file_with f.webm unknown_size open_area)
    (append_assoc (joined (records_of f)) (attachments_header f.attachments) inside
    ∙ ap (λ w. joined (records_of f) ++ w) (attachments-octets files f.attachments masters own have)
    ∙ sym (flat_map-append octets_of (records_of f) elements)
    ∙ sym (append-nil (joined (records_of f ++ elements))))
    ∙ ap (λ g. file_with f.webm unknown_size open_area (joined (front_elements g) ++ [])) (sym (ending-begun files f))

pub opening-seeks : (files : LiveFiles) (f : Front) → front_seeks f ≡ seeks_from 256 (front_elements (front_with files f))
opening-seeks files f =
    let elements = attachments_elements (map (attached_file files) f.attachments) in
    ap (λ ss. seeks_from 256 (records_of f) ++ ss) (attachments-places files f.attachments (256 + length (joined (records_of f))))
    ∙ sym (seeks_from-append 256 (records_of f) elements)

pub opening-long : (files : LiveFiles) (f : Front) → All (λ (a : Attachment). IsMaster a.entry) f.attachments → All (λ (a : Attachment). id_of a.entry ≡ ATTACHED_FILE) f.attachments → HaveData files f.attachments
    → 256 + length (front_head f) + sum_by attached_total f.attachments ≡ clusters_at (front_with files f)
opening-long files f masters own have =
    let inside = joined (map tree_element (map (attached_file files) f.attachments)) in
    let elements = attachments_elements (map (attached_file files) f.attachments) in
    omega (
      arith,
      attachments-long files f.attachments masters own have,
      ap length (attachments-octets files f.attachments masters own have),
      length-append (attachments_header f.attachments) inside,
      length-append (joined (records_of f)) (attachments_header f.attachments),
      ap length (flat_map-append octets_of (records_of f) elements),
      length-append (joined (records_of f)) (joined elements),
    )

-- ---- Seeks

info-valid : is_id INFO ≡ true
unfolding is_id
info-valid = refl

tracks-valid : is_id TRACKS ≡ true
unfolding is_id
tracks-valid = refl

attachments-valid : is_id ATTACHMENTS ≡ true
unfolding is_id
attachments-valid = refl

more-valid : (position : ℕ) (attachments : List Attachment) → AllByRecursion (λ s. is_id s.id ≡ true) (attachments_seeks position attachments)
more-valid position [] = tt
more-valid position (a ∷ attachments) = (attachments-valid, tt)

more-few : (position : ℕ) (attachments : List Attachment) → length (attachments_seeks position attachments) ≤ 1
more-few position [] = omega arith
more-few position (a ∷ attachments) = omega arith

-- The IDs of the Seeks are valid, and there are at most three.
pub front-ids : (f : Front) → id_of f.info ≡ INFO → id_of f.tracks ≡ TRACKS → AreIds (front_seeks f)
front-ids f is_info is_tracks =
    let two : AllByRecursion (λ (s : Seek). is_id s.id ≡ true) (seeks_from 256 (records_of f)) = (ap is_id (info-id f.info (lasting_if f.duration) ∙ is_info) ∙ info-valid, (ap is_id is_tracks ∙ tracks-valid, tt)) in
    let place = 256 + length (joined (records_of f)) in
    All-append (λ (s : Seek). is_id s.id ≡ true) (seeks_from 256 (records_of f)) (attachments_seeks place f.attachments)
    (All-from_recursion (λ (s : Seek). is_id s.id ≡ true) (seeks_from 256 (records_of f)) two)
    (All-from_recursion (λ (s : Seek). is_id s.id ≡ true) (attachments_seeks place f.attachments) (more-valid place f.attachments))

pub front-few : (f : Front) → length (front_seeks f) ≤ 3
front-few f =
    let place = 256 + length (joined (records_of f)) in
    omega (arith, length-append (seeks_from 256 (records_of f)) (attachments_seeks place f.attachments), more-few place f.attachments)

-- ---- elements in sequence

-- The Info is appended after its Seek.
pub info-added : (info : Node) (lasting : Option ℕ) (r r' : List ℕ) (s s' : List Seek) → id_of info ≡ INFO → r ≡ [] → s ≡ []
    → s' ≡ s ++ record { id = INFO; position = 256 + length r } ∷ [] → r' ≡ r ++ octets_of (info_element info lasting) → Adds 256 (info_element info lasting ∷ []) [] r' [] s'
info-added info lasting r r' s s' is none empty place octets = record {
  octets = octets ∙ ap (λ w. w ++ octets_of (info_element info lasting)) none ∙ sym (append-nil (octets_of (info_element info lasting)));
  places = place ∙ ap (λ w. w ++ record { id = INFO; position = 256 + length r } ∷ []) empty
      ∙ ap (λ w. record { id = INFO; position = 256 + length w } ∷ []) none
      ∙ ap (λ id. record { id = id; position = 256 } ∷ []) (sym is ∙ sym (info-id info lasting));
}

-- Two records are appended, then the header of Attachments.
pub front-added : (f : Front) (r1 r2 r3 : List ℕ) (s1 s2 s3 : List Seek) → Adds 256 (info_element f.info (lasting_if f.duration) ∷ []) [] r1 [] s1 → Adds 256 (tree_element f.tracks ∷ []) r1 r2 s1 s2
    → r3 ≡ r2 ++ attachments_header f.attachments → s3 ≡ s2 ++ attachments_seeks (256 + length r2) f.attachments → (r3 ≡ front_head f) × (s3 ≡ front_seeks f)
front-added f r1 r2 r3 s1 s2 s3 info tracks octets places =
    let both = Adds-then 256 (info_element f.info (lasting_if f.duration) ∷ []) (tree_element f.tracks ∷ []) [] r1 r2 [] s1 s2 info tracks in (
      octets ∙ ap (λ w. w ++ attachments_header f.attachments) both.octets,
      places ∙ ap (λ ss. ss ++ attachments_seeks (256 + length r2) f.attachments) both.places
          ∙ ap (λ w. seeks_from 256 (records_of f) ++ attachments_seeks (256 + length w) f.attachments) both.octets,
    )
