-- The places of the Elements of an output, and the first Element with each ID.
use Rattle.std.proofs.Common.{◌≡◌, ℕ, ◌+◌, ◌-◌, ◌==◌, nat_le, Bool, true, false, cond, List, [], ◌∷◌, ◌++◌, length, map, find, append-nil, append_assoc, length-append, All, IfSome, Option, Some, None, refl, sym, ap, ◌∙◌, subst, arith, inl, inr}
use Rattle.std.proofs.lemmas.List.Concat.{flat_map-append}
use Rattle.std.proofs.lemmas.List.Elements.{All-nil, All-cons, All-head, All-tail}
use Rattle.std.proofs.lemmas.Bool.{cases_Bool}
use Rattle.ebml_numbers.specs.Number.{id_octets, size_octets}
use Rattle.ebml_numbers.proofs.NumberLemmas.{length-size_octets}
use Rattle.mkv_schema.specs.declared.ids.TheConstants.{ATTACHMENTS, CHAPTERS, CLUSTER, CUES, INFO, SEEK_HEAD, SEGMENT, TAGS, TRACKS, VOID}
use Rattle.mkv_schema.specs.declared.element.Header.{Header}
use Rattle.mkv_schema.specs.Outline.{segment_run}
use Rattle.mkv_schema.specs.Value.{first_of}
use Rattle.tree_format.specs.Node.{Node}
use Rattle.output_model.specs.Element.{Element, HoldsAt, octets_of, joined, header_in_place, headers_in_place, master_element, void_element}
use Rattle.output_model.specs.declared.TheConstants.{AREA}
use Rattle.output_model.specs.declared.places.CuePoint.{CuePoint}
use Rattle.output_model.specs.declared.places.Seek.{Seek}
use Rattle.output_model.specs.Cluster.{OutputCluster, cluster_element}
use Rattle.output_model.specs.Cues.{cues_elements}
use Rattle.output_model.specs.SeekHead.{seek_head, area_elements}
use Rattle.output_model.specs.Document.{info_element, Document, attachments_elements, back_elements, clusters_elements, ebml_element, elements_behind_area, layout, seeks_of, segment_size, tree_element, tree_elements}
use Rattle.output_model.specs.Sound.{IsRecord, IsSoundDocument}
use Rattle.output_model.proofs.HeldLemmas.{held-between, held-left, held-right}
use Rattle.output_model.proofs.DurationLemmas.{info-id}
use Rattle.output_laws.proofs.InfoLemmas.{told-id}
use Rattle.output_laws.specs.Places.{segment_elements}
use Rattle.output_laws.specs.Reading.{header_of_segment, level_1_of, outline_of_document, segment_of_document}
use Rattle.output_laws.proofs.LayoutLemmas.{layout-read}
use Rattle.remerge_laws.proofs.OutlineLemmas.{outline-run}

-- ---- places of the Elements of an output

-- The Elements after the Segment's header.
pub layout-held : (d : Document) → HoldsAt (layout d) (header_of_segment d).body (joined (segment_elements (segment_of_document d)))
layout-held d =
    let area : List ℕ = joined (area_elements (seeks_of d)) in
    let rest : List ℕ = joined (elements_behind_area d) in
    let size : List ℕ = segment_size (length rest) in
    let ebml : List ℕ = octets_of (ebml_element d.front.webm) in
    let list : List ℕ = joined (segment_elements (segment_of_document d)) in
    let front : List ℕ = ebml ++ (id_octets SEGMENT ++ size) in
    let whole : list ≡ area ++ rest = flat_map-append octets_of (area_elements (seeks_of d)) (elements_behind_area d) in
    let spelled : layout d ≡ front ++ (list ++ []) =
    ap (λ (o : List ℕ). ebml ++ o) (sym (append_assoc (id_octets SEGMENT) size (area ++ rest)))
    ∙ sym (append_assoc ebml (id_octets SEGMENT ++ size) (area ++ rest))
    ∙ ap (λ (o : List ℕ). front ++ o) (sym whole ∙ sym (append-nil list)) in
    let place : length front ≡ (header_of_segment d).body =
    omega (arith, length-append ebml (id_octets SEGMENT ++ size), length-append (id_octets SEGMENT) size, length-append (id_octets SEGMENT) (size_octets (length list) 8), length-size_octets (AREA + length rest) 8, length-size_octets (length list) 8) in
    subst (λ (bytes : List ℕ). HoldsAt bytes (header_of_segment d).body list) (sym spelled) (held-between front list [] (header_of_segment d).body place)

-- The Elements of level 1 are the document's.
pub layout-run : (d : Document) → IsSoundDocument d → (segment_run (layout d) (header_of_segment d)).list ≡ level_1_of d
layout-run d is = outline-run (layout d) (outline_of_document d (length (layout d))) (layout-read d is).outline

-- `h` is the header of the first Element with its ID, which is at that place.
pub record IsFirstAt (bytes : List ℕ) (h : Header) (found : Option Element) : Type 0 where
  pub element : Element
  pub place : ℕ
  pub header : h ≡ header_in_place place element
  pub stands : HoldsAt bytes place (octets_of element)
  pub first : found ≡ Some element

pub first-at : (bytes : List ℕ) (id : ℕ) (es : List Element) (p : ℕ) (h : Header) → HoldsAt bytes p (joined es) → first_of id (headers_in_place p es) ≡ Some h
    → IsFirstAt bytes h (find (λ (e : Element). e.id == id) es)
first-at bytes id [] p h held found = absurd (cc)
first-at bytes id (e ∷ es) p h held found = elim (cases_Bool (e.id == id)) [
  | inl is ↦
      let here : Some (header_in_place p e) ≡ Some h = rw is at found in
      let same : header_in_place p e ≡ h = cc in
      rw is (record { element = e; place = p; header = sym same; stands = held-left bytes p (octets_of e) (joined es) held; first = refl })
  | inr is ↦ rw is (first-at bytes id es (p + length (octets_of e)) h (held-right bytes p (octets_of e) (joined es) held) (rw is at found))
]

-- ---- the first Element with an ID

-- the first Element with an ID
abbrev pub first_element : ℕ → List Element → Option Element
first_element id es = find (λ (e : Element). e.id == id) es

abbrev HasId : ℕ → Element → Type 0
HasId own e = e.id ≡ own

here : (id : ℕ) (e : Element) (rest : List Element) → HasId id e → (id == id) ≡ true → first_element id (e ∷ rest) ≡ Some e
here id e rest is same = ap (λ (i : ℕ). cond (i == id) (Some e) (first_element id rest)) is ∙ ap (λ (t : Bool). cond t (Some e) (first_element id rest)) same

-- Earlier Elements with other IDs don't count.
behind : (id own : ℕ) (es rest : List Element) → (own == id) ≡ false → All (HasId own) es → first_element id (es ++ rest) ≡ first_element id rest
behind id own [] rest differs are = refl
behind id own (e ∷ es) rest differs are =
    ap (λ (i : ℕ). cond (i == id) (Some e) (first_element id (es ++ rest))) (All-head (HasId own) e es are)
    ∙ ap (λ (t : Bool). cond t (Some e) (first_element id (es ++ rest))) differs
    ∙ behind id own es rest differs (All-tail (HasId own) e es are)

void-id : (total : ℕ) → (void_element total).id ≡ VOID
void-id total = elim (cases_Bool (nat_le total 128)) [ inl is ↦ rw is refl | inr is ↦ rw is refl ]

one-id : (own : ℕ) (e : Element) → HasId own e → All (HasId own) (e ∷ [])
one-id own e is = All-cons (HasId own) e [] is (All-nil (HasId own))

behind-area : (id : ℕ) (seeks : List Seek) (rest : List Element) → (SEEK_HEAD == id) ≡ false → (VOID == id) ≡ false → first_element id (area_elements seeks ++ rest) ≡ first_element id rest
behind-area id seeks rest seek void =
    let total : ℕ = AREA - length (octets_of (seek_head seeks)) in
    behind id SEEK_HEAD (seek_head seeks ∷ []) (void_element total ∷ rest) seek (one-id SEEK_HEAD (seek_head seeks) refl)
    ∙ behind id VOID (void_element total ∷ []) rest void (one-id VOID (void_element total) (void-id total))

attachments-ids : (ns : List Node) → All (HasId ATTACHMENTS) (attachments_elements ns)
attachments-ids [] = All-nil (HasId ATTACHMENTS)
attachments-ids (n ∷ ns) = one-id ATTACHMENTS (master_element ATTACHMENTS (map tree_element (n ∷ ns))) refl

clusters-ids : (cs : List OutputCluster) → All (HasId CLUSTER) (clusters_elements cs)
clusters-ids [] = All-nil (HasId CLUSTER)
clusters-ids (c ∷ cs) = All-cons (HasId CLUSTER) (cluster_element c) (clusters_elements cs) refl (clusters-ids cs)

cues-ids : (points : List CuePoint) → All (HasId CUES) (cues_elements points)
cues-ids [] = All-nil (HasId CUES)
cues-ids (point ∷ points) = All-cons (HasId CUES) _ [] refl (All-nil (HasId CUES))

record-ids : (own : ℕ) (o : Option Node) → IfSome o (IsRecord own) → All (HasId own) (tree_elements o)
record-ids own None is = All-nil (HasId own)
record-ids own (Some n) is = one-id own (tree_element n) is.id

-- The first Elements of a document.
module _ (d : Document) (is : IsSoundDocument d) where
  abbrev behind_tracks : List Element
  behind_tracks = attachments_elements d.front.attachments ++ (clusters_elements d.clusters ++ back_elements d)

  abbrev info : Element
  info = info_element d.front.info d.front.lasting

  its-id : info.id ≡ INFO
  its-id = info-id d.front.info d.front.lasting ∙ sym (told-id d.front.info d.front.lasting) ∙ is.info.id

  pub info-first : first_element INFO (segment_elements (segment_of_document d)) ≡ Some info
  info-first =
      behind-area INFO (seeks_of d) (info ∷ tree_element d.front.tracks ∷ behind_tracks) refl refl
      ∙ here INFO info (tree_element d.front.tracks ∷ behind_tracks) its-id refl

  -- The first Element after the Info.
  past-info : (id : ℕ) → (SEEK_HEAD == id) ≡ false → (VOID == id) ≡ false → (INFO == id) ≡ false
      → first_element id (segment_elements (segment_of_document d)) ≡ first_element id (tree_element d.front.tracks ∷ behind_tracks)
  past-info id seek void differs =
      behind-area id (seeks_of d) (info ∷ tree_element d.front.tracks ∷ behind_tracks) seek void
      ∙ behind id INFO (info ∷ []) (tree_element d.front.tracks ∷ behind_tracks) differs (one-id INFO info its-id)

  pub tracks-first : first_element TRACKS (segment_elements (segment_of_document d)) ≡ Some (tree_element d.front.tracks)
  tracks-first = past-info TRACKS refl refl refl ∙ here TRACKS (tree_element d.front.tracks) behind_tracks is.tracks.is.id refl

  past-tracks : (id : ℕ) → (SEEK_HEAD == id) ≡ false → (VOID == id) ≡ false → (INFO == id) ≡ false → (TRACKS == id) ≡ false
      → first_element id (segment_elements (segment_of_document d)) ≡ first_element id behind_tracks
  past-tracks id seek void info tracks =
      past-info id seek void info
      ∙ behind id TRACKS (tree_element d.front.tracks ∷ []) behind_tracks tracks (one-id TRACKS (tree_element d.front.tracks) is.tracks.is.id)

  pub attachments-first : (n : Node) (ns : List Node) → d.front.attachments ≡ n ∷ ns
      → first_element ATTACHMENTS (segment_elements (segment_of_document d)) ≡ Some (master_element ATTACHMENTS (map tree_element (n ∷ ns)))
  attachments-first n ns same =
      past-tracks ATTACHMENTS refl refl refl refl
      ∙ ap (λ (l : List Node). first_element ATTACHMENTS (attachments_elements l ++ (clusters_elements d.clusters ++ back_elements d))) same

  -- The first Element after the Clusters.
  past-cues : (id : ℕ) → (SEEK_HEAD == id) ≡ false → (VOID == id) ≡ false → (INFO == id) ≡ false → (TRACKS == id) ≡ false → (ATTACHMENTS == id) ≡ false → (CLUSTER == id) ≡ false → (CUES == id) ≡ false
      → first_element id (segment_elements (segment_of_document d)) ≡ first_element id (tree_elements d.chapters ++ tree_elements d.tags)
  past-cues id seek void info tracks attachments cluster cues =
      past-tracks id seek void info tracks
      ∙ behind id ATTACHMENTS (attachments_elements d.front.attachments) (clusters_elements d.clusters ++ back_elements d) attachments (attachments-ids d.front.attachments)
      ∙ behind id CLUSTER (clusters_elements d.clusters) (back_elements d) cluster (clusters-ids d.clusters)
      ∙ behind id CUES (cues_elements d.cues) (tree_elements d.chapters ++ tree_elements d.tags) cues (cues-ids d.cues)

  pub chapters-first : (n : Node) → d.chapters ≡ Some n → first_element CHAPTERS (segment_elements (segment_of_document d)) ≡ Some (tree_element n)
  chapters-first n same =
      past-cues CHAPTERS refl refl refl refl refl refl refl
      ∙ ap (λ (o : Option Node). first_element CHAPTERS (tree_elements o ++ tree_elements d.tags)) same
      ∙ here CHAPTERS (tree_element n) (tree_elements d.tags) (subst (λ (o : Option Node). IfSome o (IsRecord CHAPTERS)) same is.chapters).id refl

  pub tags-first : (n : Node) → d.tags ≡ Some n → first_element TAGS (segment_elements (segment_of_document d)) ≡ Some (tree_element n)
  tags-first n same =
      past-cues TAGS refl refl refl refl refl refl refl
      ∙ behind TAGS CHAPTERS (tree_elements d.chapters) (tree_elements d.tags) refl (record-ids CHAPTERS d.chapters is.chapters)
      ∙ ap (λ (o : Option Node). first_element TAGS (tree_elements o)) same
      ∙ here TAGS (tree_element n) [] (subst (λ (o : Option Node). IfSome o (IsRecord TAGS)) same is.tags).id refl
