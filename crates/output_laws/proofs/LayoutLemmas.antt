-- Written documents are read back.
use Rattle.std.proofs.Common.{◌≡◌, ℕ, ◌+◌, ◌-◌, ◌≤◌, ◌==◌, nat_lt, min, Bool, false, if◌then◌else◌, List, [], ◌∷◌, ◌++◌, length, All, append-nil, append_assoc, length-append, Option, None, Some, Ok, Err, refl, sym, ap, ◌∙◌, subst, arith}
use Rattle.std.proofs.lemmas.Bool.{cond-true, lt-ltb}
use Rattle.std.proofs.lemmas.List.Concat.{flat_map-append}
use Rattle.std.proofs.lemmas.List.Elements.{All-nil, All-cons, All-head, All-tail, All-append, All-take, All-weaker}
use Rattle.ebml_numbers.specs.Number.{is_id, id_octets, size_octets}
use Rattle.mkv_schema.specs.declared.ids.TheConstants.{SEGMENT, CLUSTER, VOID, SEEK_HEAD, INFO, TRACKS, CUES, ATTACHMENTS, CHAPTERS, TAGS}
use Rattle.mkv_io.specs.declared.damage.Kind.TheVariants.{NoSegment}
use Rattle.mkv_schema.specs.declared.element.Header.{Header}
use Rattle.mkv_schema.specs.Element.{at_level_0, element_at, end_in, stated_end, damage}
use Rattle.mkv_schema.specs.Elements.{Run, ends_at, step, id_of, elements}
use Rattle.mkv_schema.specs.Value.{first_of}
use Rattle.mkv_schema.specs.Outline.{segment_behind, before_segment, segment_of, segment_bound, segment_run, outlined}
use Rattle.mkv_io.specs.Results.{and_then, unless}
use Rattle.mkv_schema.specs.WithoutLimits.{outline_without_limits}
use Rattle.mkv_schema.proofs.ElementsLemmas.{Advances-known, elements-more}
use Rattle.tree_format.specs.Node.{Node}
use Rattle.file_format.specs.Info.{scale_of, scale_in, scale_at, info_without_limits, scale_without_limits}
use Rattle.block_format.specs.Events.{events_of}
use Rattle.output_model.specs.Element.{Element, IsElement, HoldsAt, header_of, octets_of, joined, header_in_place, headers_in_place, void_element}
use Rattle.output_model.proofs.HeldLemmas.{held-left, held-right, held-between}
use Rattle.output_model.proofs.ReadLemmas.{element_at-read, stands-body, length-octets_of, octets_of-some}
use Rattle.output_model.specs.declared.TheConstants.{AREA, MAX_CUES, MAX_LANES}
use Rattle.output_model.specs.Cluster.{OutputCluster}
use Rattle.output_model.specs.Cues.{points_from, cues_elements}
use Rattle.output_model.specs.SeekHead.{seek_head, area_elements, seeks_from}
use Rattle.output_model.specs.Document.{Document, ebml_element, tree_element, tree_elements, info_element, attachments_elements, front_elements, clusters_elements, back_elements, elements_behind_area, clusters_at, back_at, seeks_of, layout}
use Rattle.output_model.specs.Sound.{IsSoundIn, IsSoundCluster, IsSoundDocument, lanes_of}
use Rattle.output_laws.specs.Places.{HasSize, IsOther, OutputSegment, segment_elements, segment_element, IsSoundSegment}
use Rattle.output_laws.specs.Points.{PointsAtBlock}
use Rattle.output_laws.proofs.ClusterLemmas.{sizes-joined}
use Rattle.output_laws.proofs.SegmentLemmas.{IsElement-segment, elements-of, segment-read, segment-is_read}
use Rattle.output_laws.proofs.CueLemmas.{points-hold}
use Rattle.output_laws.specs.Reading.{segment_of_document, segment_place, header_of_segment, level_1_of, RecordsAre, SeeksElement, IsReadAs}
use Rattle.output_laws.proofs.AreaLemmas.{length-area}
use Rattle.output_laws.proofs.HeaderLemmas.{ebml-read}
use Rattle.output_laws.proofs.PartLemmas.{All-parts, IsNot, IsShortest, shortest-record, shortest-info, shortest-records, shortest-attachments, shortest-cues, shortest-clusters, not-shortest, none-shortest, other-shortest, others-shortest, void-id, void-other}
use Rattle.output_laws.proofs.RecordLemmas.{first-record, info-read, attachments-read, cues-read, seeks-read}
use Rattle.output_laws.proofs.InfoLemmas.{told-master, FindsInfo, info-found}

-- ---- a document is an EBML header and a Segment

-- A Segment's body is the area and the Elements after it.
body-is : (d : Document) → joined (segment_elements (segment_of_document d)) ≡ joined (area_elements (seeks_of d)) ++ joined (elements_behind_area d)
body-is d = flat_map-append octets_of (area_elements (seeks_of d)) (elements_behind_area d)

layout-is : (d : Document) → IsSoundDocument d → layout d ≡ octets_of (ebml_element d.front.webm) ++ octets_of (segment_element (segment_of_document d))
layout-is d is =
    let rest : List ℕ = joined (elements_behind_area d) in
    let area : List ℕ = joined (area_elements (seeks_of d)) in
    let body : List ℕ = joined (segment_elements (segment_of_document d)) in
    let len : length body ≡ AREA + length rest =
    ap (λ (o : List ℕ). length o) (body-is d) ∙ length-append area rest ∙ ap (λ n. n + length rest) (length-area d is) in
    ap (λ o. octets_of (ebml_element d.front.webm) ++ o)
    (ap (λ n. id_octets SEGMENT ++ (size_octets n 8 ++ (area ++ rest))) (sym len)
    ∙ ap (λ o. id_octets SEGMENT ++ (size_octets (length body) 8 ++ o)) (sym (body-is d))
    ∙ sym (append_assoc (id_octets SEGMENT) (size_octets (length body) 8) body))

-- ---- the Segment is valid

segment-short : (d : Document) → IsSoundDocument d → HasSize (segment_element (segment_of_document d))
segment-short d is =
    let e : Element = segment_element (segment_of_document d) in
    let whole = ap (λ (o : List ℕ). length o) (layout-is d is) in
    let short = is.short in
    omega (arith, length-append (octets_of (ebml_element d.front.webm)) (octets_of e), length-octets_of e)

-- An output may have more output tracks than it has.
wider-cluster : (few many : ℕ) (c : OutputCluster) → few ≤ many → IsSoundCluster few c → IsSoundCluster many c
wider-cluster few many c fits is = record {
  begins = is.begins;
  blocks = All-weaker (IsSoundIn few c.timestamp) (IsSoundIn many c.timestamp) (λ b s. let most = s.lane_most in record { sound = s.sound; near = s.near; lane_some = s.lane_some; lane_most = omega arith }) c.blocks is.blocks;
}

-- The parts of the document `d`, each with its shortest header.
record HasParts (d : Document) : Type 0 where
  info : IsShortest INFO (info_element d.front.info d.front.lasting)
  tracks : IsShortest TRACKS (tree_element d.front.tracks)
  attachments : All (IsShortest ATTACHMENTS) (attachments_elements d.front.attachments)
  clusters : All (IsShortest CLUSTER) (clusters_elements d.clusters)
  cues : All (IsShortest CUES) (cues_elements d.cues)
  chapters : All (IsShortest CHAPTERS) (tree_elements d.chapters)
  tags : All (IsShortest TAGS) (tree_elements d.tags)

parts-of : (d : Document) → IsSoundDocument d → HasParts d
parts-of d is = record {
  info = shortest-info d.front.info d.front.lasting is.info;
  tracks = shortest-record TRACKS d.front.tracks is.tracks.is;
  attachments = shortest-attachments d.front.attachments;
  clusters = shortest-clusters d.clusters;
  cues = shortest-cues d.cues;
  chapters = shortest-records CHAPTERS d.chapters is.chapters;
  tags = shortest-records TAGS d.tags is.tags;
}

segment-sound : (d : Document) → IsSoundDocument d → IsSoundSegment (segment_of_document d)
unfolding is_id
segment-sound d is =
    let s : OutputSegment = segment_of_document d in
    let size = segment-short d is in
    let seek : Element = seek_head (seeks_of d) in
    let total : ℕ = AREA - length (octets_of seek) in
    let void : Element = void_element total in
    let front : List Element = front_elements d.front in
    let info : Element = info_element d.front.info d.front.lasting in
    let tracks : Element = tree_element d.front.tracks in
    let attachments : List Element = attachments_elements d.front.attachments in
    let chapters : List Element = tree_elements d.chapters in
    let tags : List Element = tree_elements d.tags in
    let has = parts-of d is in
    let sizes : All HasSize (segment_elements s) = sizes-joined (segment_elements s) size in
    let halves = All-parts HasSize s.front (clusters_elements s.clusters ++ s.behind) sizes in
    let behind = (All-parts HasSize (clusters_elements s.clusters) s.behind halves.1).1 in
    let cues = All-parts HasSize (cues_elements d.cues) (chapters ++ tags) behind in
    let others = All-parts HasSize chapters tags cues.1 in
    let from_void = All-tail HasSize seek (void ∷ front) halves.0 in
    let from_info = All-tail HasSize void front from_void in
    let from_tracks = All-tail HasSize info (tracks ∷ attachments) from_info in
    let from_attachments = All-tail HasSize tracks attachments from_tracks in
    let few = is.tracks.few in
    record {
      size = size;
      front =
          All-cons IsOther seek (void ∷ front) (other-shortest SEEK_HEAD seek refl refl (record { id = refl; width = refl }) (All-head HasSize seek (void ∷ front) halves.0))
          (All-cons IsOther void front (void-other total (All-head HasSize void front from_void))
          (All-cons IsOther info (tracks ∷ attachments) (other-shortest INFO info refl refl has.info (All-head HasSize info (tracks ∷ attachments) from_info))
          (All-cons IsOther tracks attachments (other-shortest TRACKS tracks refl refl has.tracks (All-head HasSize tracks attachments from_tracks))
          (others-shortest ATTACHMENTS attachments refl refl has.attachments from_attachments))));
      clusters = All-weaker (IsSoundCluster (lanes_of d)) (IsSoundCluster MAX_LANES) (λ c one. wider-cluster (lanes_of d) MAX_LANES c few one) d.clusters is.clusters;
      behind =
          All-append IsOther (cues_elements d.cues) (chapters ++ tags) (others-shortest CUES (cues_elements d.cues) refl refl has.cues cues.0)
          (All-append IsOther chapters tags (others-shortest CHAPTERS chapters refl refl has.chapters others.0) (others-shortest TAGS tags refl refl has.tags others.1));
    }

-- ---- the Segment is found

segment-found : (front : List ℕ) (d : Element) (w : ℕ) → length front ≡ w → IsElement d → d.id ≡ SEGMENT → and_then (unless (before_segment (front ++ octets_of d) w).damage (before_segment (front ++ octets_of d) w)) (segment_behind (front ++ octets_of d)) ≡ Ok (header_in_place w d)
segment-found front d w at is own =
    let bytes : List ℕ = front ++ octets_of d in
    let e : ℕ = length bytes in
    let long : e ≡ w + length (octets_of d) = length-append front (octets_of d) ∙ ap (λ n. n + length (octets_of d)) at in
    let some = octets_of-some d is in
    let held : HoldsAt bytes w (octets_of d) =
    subst (λ (o : List ℕ). HoldsAt (front ++ o) w (octets_of d)) (append-nil (octets_of d)) (held-between front (octets_of d) [] w at) in
    let found : element_at at_level_0 bytes w e ≡ Ok (header_in_place w d) = element_at-read at_level_0 bytes d w e refl is held (omega arith) in
    let run : before_segment bytes w ≡ ends_at w =
    elements-more at_level_0 (λ id. id == SEGMENT) (λ h. Ok (end_in e h)) bytes w e (Advances-known at_level_0 bytes e) (omega arith)
    ∙ ap (λ r. if id_of r == SEGMENT then ends_at w else step w (λ h. Ok (end_in e h)) r (λ q. elements at_level_0 (λ id. id == SEGMENT) (λ h. Ok (end_in e h)) bytes q e)) found
    ∙ ap (λ id. if id == SEGMENT then ends_at w else step w (λ h. Ok (end_in e h)) (Ok (header_in_place w d)) (λ q. elements at_level_0 (λ id. id == SEGMENT) (λ h. Ok (end_in e h)) bytes q e)) own in
    ap (λ (r : Run). and_then (unless r.damage r) (segment_behind bytes)) run
    ∙ cond-true (nat_lt w e) (element_at at_level_0 bytes w e) (Err (damage NoSegment 0 e)) (lt-ltb _ _ (omega arith))
    ∙ found

-- The outline of a content that is an EBML header and then a Segment of Elements.
outline-read : (webm : Bool) (d : Element) (es : List Element) → IsElement d → d.id ≡ SEGMENT → d.body ≡ joined es → All IsElement es
    → (let bytes : List ℕ = octets_of (ebml_element webm) ++ octets_of d in
    let w : ℕ = length (octets_of (ebml_element webm)) in
    outline_without_limits bytes ≡ Ok (record { ebml = header_in_place 0 (ebml_element webm); segment = header_in_place w d; list = headers_in_place (w + length (header_of d)) es; damage = None; end = length bytes }))
unfolding outline_without_limits segment_of
outline-read webm d es is own spells are =
    let front : List ℕ = octets_of (ebml_element webm) in
    let bytes : List ℕ = front ++ octets_of d in
    let w : ℕ = length front in
    let ebml : Header = header_in_place 0 (ebml_element webm) in
    let h : Header = header_in_place w d in
    let q : ℕ = w + length (header_of d) in
    let made : Run = record { list = headers_in_place q es; damage = None; end = q + length (joined es) } in
    let held : HoldsAt bytes w (octets_of d) = subst (λ (o : List ℕ). HoldsAt (front ++ o) w (octets_of d)) (append-nil (octets_of d)) (held-between front (octets_of d) [] w refl) in
    let at : stated_end ebml ≡ w = omega (arith, length-octets_of (ebml_element webm)) in
    let found : segment_of bytes ebml ≡ Ok h = ap (λ p. and_then (unless (before_segment bytes p).damage (before_segment bytes p)) (segment_behind bytes)) at ∙ segment-found front d w refl is own in
    let end : min (q + length d.body) (length bytes) ≡ length bytes = omega (arith, length-append front (octets_of d), length-octets_of d) in
    ap (λ r. and_then r (λ e. and_then (segment_of bytes e) (λ segment. Ok (outlined bytes e segment (segment_run bytes segment))))) (ebml-read webm (octets_of d))
    ∙ ap (λ r. and_then r (λ segment. Ok (outlined bytes ebml segment (segment_run bytes segment)))) found
    ∙ ap (λ r. Ok (outlined bytes ebml h r)) (segment-read bytes d es w is spells are held)
    ∙ ap (λ n. Ok (record { ebml = ebml; segment = h; list = headers_in_place q es; damage = None; end = n })) end

-- ---- the records

records-read : (d : Document) (bytes : List ℕ) (p : ℕ) → IsSoundDocument d → HoldsAt bytes p (joined (segment_elements (segment_of_document d)))
    → RecordsAre bytes (headers_in_place p (segment_elements (segment_of_document d))) d
records-read d bytes p is held =
    let s : OutputSegment = segment_of_document d in
    let list : List Element = segment_elements s in
    let seek : Element = seek_head (seeks_of d) in
    let total : ℕ = AREA - length (octets_of seek) in
    let info : Element = info_element d.front.info d.front.lasting in
    let tracks : Element = tree_element d.front.tracks in
    let area : List Element = area_elements (seeks_of d) in
    let attachments : List Element = attachments_elements d.front.attachments in
    let middle : List Element = clusters_elements d.clusters in
    let cues : List Element = cues_elements d.cues in
    let chapters : List Element = tree_elements d.chapters in
    let tags : List Element = tree_elements d.tags in
    let has = parts-of d is in
    let sizes = All-parts HasSize s.front (middle ++ s.behind) (sizes-joined list (segment-short d is)) in
    let sizes_front = All-parts HasSize (area ++ (info ∷ tracks ∷ [])) attachments sizes.0 in
    let behind_clusters : attachments ++ (middle ++ (cues ++ (chapters ++ tags))) ≡ (attachments ++ (middle ++ cues)) ++ (chapters ++ tags) =
    ap (λ l. attachments ++ l) (sym (append_assoc middle cues (chapters ++ tags))) ∙ sym (append_assoc attachments (middle ++ cues) (chapters ++ tags)) in
    let behind_chapters : (attachments ++ (middle ++ cues)) ++ (chapters ++ tags) ≡ ((attachments ++ (middle ++ cues)) ++ chapters) ++ (tags ++ []) =
    sym (append_assoc (attachments ++ (middle ++ cues)) chapters tags) ∙ ap (λ l. ((attachments ++ (middle ++ cues)) ++ chapters) ++ l) (sym (append-nil tags)) in
    record {
      info = info-read bytes d.front.info d.front.lasting list area (tracks ∷ (attachments ++ (middle ++ (cues ++ (chapters ++ tags))))) p refl
          (in_area INFO refl refl)
          (All-cons (IsNot INFO) tracks _ (not-shortest TRACKS INFO tracks refl has.tracks)
          (All-append (IsNot INFO) attachments _ (none-shortest ATTACHMENTS INFO attachments refl has.attachments)
          (All-append (IsNot INFO) middle _ (none-shortest CLUSTER INFO middle refl has.clusters)
          (All-append (IsNot INFO) cues _ (none-shortest CUES INFO cues refl has.cues)
          (All-append (IsNot INFO) chapters tags (none-shortest CHAPTERS INFO chapters refl has.chapters) (none-shortest TAGS INFO tags refl has.tags))))))
          is.info held;
      tracks = first-record bytes TRACKS (Some d.front.tracks) list (area ++ info ∷ []) (attachments ++ (middle ++ (cues ++ (chapters ++ tags)))) p refl refl
          (All-append (IsNot TRACKS) area (info ∷ []) (in_area TRACKS refl refl) (All-cons (IsNot TRACKS) info [] (not-shortest INFO TRACKS info refl has.info) (All-nil (IsNot TRACKS))))
          (All-append (IsNot TRACKS) attachments _ (none-shortest ATTACHMENTS TRACKS attachments refl has.attachments)
          (All-append (IsNot TRACKS) middle _ (none-shortest CLUSTER TRACKS middle refl has.clusters)
          (All-append (IsNot TRACKS) cues _ (none-shortest CUES TRACKS cues refl has.cues)
          (All-append (IsNot TRACKS) chapters tags (none-shortest CHAPTERS TRACKS chapters refl has.chapters) (none-shortest TAGS TRACKS tags refl has.tags)))))
          is.tracks.is held;
      attachments = attachments-read bytes d.front.attachments list (area ++ info ∷ tracks ∷ []) (middle ++ (cues ++ (chapters ++ tags))) p refl
          (in_front ATTACHMENTS refl refl refl refl)
          (All-append (IsNot ATTACHMENTS) middle _ (none-shortest CLUSTER ATTACHMENTS middle refl has.clusters)
          (All-append (IsNot ATTACHMENTS) cues _ (none-shortest CUES ATTACHMENTS cues refl has.cues)
          (All-append (IsNot ATTACHMENTS) chapters tags (none-shortest CHAPTERS ATTACHMENTS chapters refl has.chapters) (none-shortest TAGS ATTACHMENTS tags refl has.tags))))
          sizes_front.1 is.attachments held;
      cues = cues-read bytes d.cues list (area ++ info ∷ tracks ∷ (attachments ++ middle)) (chapters ++ tags) p
          (ap (λ l. area ++ info ∷ tracks ∷ l) (sym (append_assoc attachments middle (cues ++ (chapters ++ tags)))))
          (before_cues CUES refl refl refl refl refl refl)
          (All-append (IsNot CUES) chapters tags (none-shortest CHAPTERS CUES chapters refl has.chapters) (none-shortest TAGS CUES tags refl has.tags))
          held;
      chapters = first-record bytes CHAPTERS d.chapters list (area ++ info ∷ tracks ∷ (attachments ++ (middle ++ cues))) tags p refl
          (ap (λ l. area ++ info ∷ tracks ∷ l) behind_clusters)
          (before_back CHAPTERS refl refl refl refl refl refl refl)
          (none-shortest TAGS CHAPTERS tags refl has.tags)
          is.chapters held;
      tags = first-record bytes TAGS d.tags list (area ++ info ∷ tracks ∷ ((attachments ++ (middle ++ cues)) ++ chapters)) [] p refl
          (ap (λ l. area ++ info ∷ tracks ∷ l) (behind_clusters ∙ behind_chapters))
          (All-append (IsNot TAGS) (area ++ info ∷ tracks ∷ (attachments ++ (middle ++ cues))) chapters (before_back TAGS refl refl refl refl refl refl refl) (none-shortest CHAPTERS TAGS chapters refl has.chapters))
          (All-nil (IsNot TAGS))
          is.tags held;
    }
  where
    in_area : (id : ℕ) → (SEEK_HEAD == id) ≡ false → (VOID == id) ≡ false → All (IsNot id) (area_elements (seeks_of d))
    in_area id seek void =
        let total : ℕ = AREA - length (octets_of (seek_head (seeks_of d))) in
        All-cons (IsNot id) (seek_head (seeks_of d)) (void_element total ∷ []) seek (All-cons (IsNot id) (void_element total) [] (ap (λ x. x == id) (void-id total) ∙ void) (All-nil (IsNot id)))

    in_front : (id : ℕ) → (SEEK_HEAD == id) ≡ false → (VOID == id) ≡ false → (INFO == id) ≡ false → (TRACKS == id) ≡ false
        → All (IsNot id) (area_elements (seeks_of d) ++ info_element d.front.info d.front.lasting ∷ tree_element d.front.tracks ∷ [])
    in_front id seek void one two =
        let has = parts-of d is in
        All-append (IsNot id) (area_elements (seeks_of d)) (info_element d.front.info d.front.lasting ∷ tree_element d.front.tracks ∷ []) (in_area id seek void)
        (All-cons (IsNot id) (info_element d.front.info d.front.lasting) (tree_element d.front.tracks ∷ []) (not-shortest INFO id (info_element d.front.info d.front.lasting) one has.info)
        (All-cons (IsNot id) (tree_element d.front.tracks) [] (not-shortest TRACKS id (tree_element d.front.tracks) two has.tracks) (All-nil (IsNot id))))

    before_cues : (id : ℕ) → (SEEK_HEAD == id) ≡ false → (VOID == id) ≡ false → (INFO == id) ≡ false → (TRACKS == id) ≡ false → (ATTACHMENTS == id) ≡ false → (CLUSTER == id) ≡ false
        → All (IsNot id) (area_elements (seeks_of d) ++ info_element d.front.info d.front.lasting ∷ tree_element d.front.tracks ∷ (attachments_elements d.front.attachments ++ clusters_elements d.clusters))
    before_cues id seek void one two three four =
        let has = parts-of d is in
        All-append (IsNot id) (area_elements (seeks_of d) ++ info_element d.front.info d.front.lasting ∷ tree_element d.front.tracks ∷ []) (attachments_elements d.front.attachments ++ clusters_elements d.clusters) (in_front id seek void one two)
        (All-append (IsNot id) (attachments_elements d.front.attachments) (clusters_elements d.clusters) (none-shortest ATTACHMENTS id (attachments_elements d.front.attachments) three has.attachments)
        (none-shortest CLUSTER id (clusters_elements d.clusters) four has.clusters))

    before_back : (id : ℕ) → (SEEK_HEAD == id) ≡ false → (VOID == id) ≡ false → (INFO == id) ≡ false → (TRACKS == id) ≡ false → (ATTACHMENTS == id) ≡ false → (CLUSTER == id) ≡ false → (CUES == id) ≡ false
        → All (IsNot id) (area_elements (seeks_of d) ++ info_element d.front.info d.front.lasting ∷ tree_element d.front.tracks ∷ (attachments_elements d.front.attachments ++ (clusters_elements d.clusters ++ cues_elements d.cues)))
    before_back id seek void one two three four five =
        let has = parts-of d is in
        All-append (IsNot id) (area_elements (seeks_of d) ++ info_element d.front.info d.front.lasting ∷ tree_element d.front.tracks ∷ []) (attachments_elements d.front.attachments ++ (clusters_elements d.clusters ++ cues_elements d.cues)) (in_front id seek void one two)
        (All-append (IsNot id) (attachments_elements d.front.attachments) (clusters_elements d.clusters ++ cues_elements d.cues) (none-shortest ATTACHMENTS id (attachments_elements d.front.attachments) three has.attachments)
        (All-append (IsNot id) (clusters_elements d.clusters) (cues_elements d.cues) (none-shortest CLUSTER id (clusters_elements d.clusters) four has.clusters) (none-shortest CUES id (cues_elements d.cues) five has.cues)))

-- ---- the scale

scale-read : (bytes : List ℕ) (list : List Header) (info : Node) (lasting : Option ℕ) → FindsInfo bytes list info lasting → scale_at (info_without_limits bytes) (first_of INFO list) ≡ scale_of info
scale-read bytes list info lasting finds = ap (scale_at (info_without_limits bytes)) finds.first ∙ ap scale_in finds.read ∙ finds.scale

-- ---- a document

read-as : (d : Document) → IsSoundDocument d → IsReadAs d (octets_of (ebml_element d.front.webm) ++ octets_of (segment_element (segment_of_document d)))
unfolding scale_without_limits
read-as d is =
    let s : OutputSegment = segment_of_document d in
    let e : Element = segment_element s in
    let front : List ℕ = octets_of (ebml_element d.front.webm) in
    let bytes : List ℕ = front ++ octets_of e in
    let w : ℕ = segment_place d in
    let h : Header = header_of_segment d in
    let q : ℕ = h.body in
    let sound = segment-sound d is in
    let is_segment = IsElement-segment s sound.size in
    let elements_are = elements-of s sound in
    let held : HoldsAt bytes w (octets_of e) = subst (λ (o : List ℕ). HoldsAt (front ++ o) w (octets_of e)) (append-nil (octets_of e)) (held-between front (octets_of e) [] w refl) in
    let body : HoldsAt bytes q (joined (segment_elements s)) = stands-body bytes w e held in
    let read = segment-is_read (scale_of d.front.info) bytes s w sound held in
    let records = records-read d bytes q is body in
    let scale : scale_without_limits bytes h ≡ scale_of d.front.info =
    ap (λ hs. scale_at (info_without_limits bytes) (first_of INFO hs)) read.level_1 ∙ scale-read bytes (level_1_of d) d.front.info d.front.lasting (info-found bytes (level_1_of d) d.front.info d.front.lasting (told-master d.front.info d.front.lasting is.info.master) records.info) in
    let area_len = length-area d is in
    let front_len : length (joined s.front) ≡ clusters_at d.front =
    ap (λ (o : List ℕ). length o) (flat_map-append octets_of (area_elements (seeks_of d)) (front_elements d.front)) ∙ length-append (joined (area_elements (seeks_of d))) (joined (front_elements d.front)) ∙ omega arith in
    record {
      outline = outline-read d.front.webm e (segment_elements s) is_segment refl refl elements_are;
      scale = scale;
      records = records;
      events = ap (λ n. events_of (record { limits = false; scale = n }) bytes h) scale ∙ read.events;
      seeks = seeks-of d bytes is body (omega (arith, length-append front (octets_of e), length-octets_of e));
      cues = subst (All (PointsAtBlock (scale_of d.front.info) bytes h)) (sym is.cues)
          (All-take (PointsAtBlock (scale_of d.front.info) bytes h) MAX_CUES (points_from is.cued (clusters_at d.front) d.clusters)
          (subst (λ (k : ℕ). All (PointsAtBlock (scale_of d.front.info) bytes h) (points_from is.cued k d.clusters)) front_len (points-hold (scale_of d.front.info) bytes is.cued s w sound held)));
    }
  where
    seeks-of : (d : Document) (bytes : List ℕ) → IsSoundDocument d → HoldsAt bytes (header_of_segment d).body (joined (segment_elements (segment_of_document d)))
        → (header_of_segment d).body + length (joined (segment_elements (segment_of_document d))) ≤ segment_bound bytes (header_of_segment d)
        → All (SeeksElement bytes (header_of_segment d)) (seeks_of d)
    seeks-of d bytes is body ends =
        let s : OutputSegment = segment_of_document d in
        let h : Header = header_of_segment d in
        let q : ℕ = h.body in
        let area : List Element = area_elements (seeks_of d) in
        let front : List Element = front_elements d.front in
        let middle : List Element = clusters_elements d.clusters in
        let back : List Element = back_elements d in
        let are = All-parts IsElement s.front (middle ++ back) (elements-of s (segment-sound d is)) in
        let are_front = (All-parts IsElement area front are.0).1 in
        let are_back = (All-parts IsElement middle back are.1).1 in
        let area_len = length-area d is in
        let apart : joined (segment_elements s) ≡ joined area ++ (joined front ++ (joined middle ++ joined back)) =
        body-is d ∙ ap (λ o. joined area ++ o) (flat_map-append octets_of front (middle ++ back) ∙ ap (λ o. joined front ++ o) (flat_map-append octets_of middle back)) in
        let len : length (joined (segment_elements s)) ≡ length (joined area) + (length (joined front) + (length (joined middle) + length (joined back))) =
        ap (λ (o : List ℕ). length o) apart ∙ length-append (joined area) (joined front ++ (joined middle ++ joined back))
        ∙ omega (arith, length-append (joined front) (joined middle ++ joined back), length-append (joined middle) (joined back)) in
        let held = subst (HoldsAt bytes q) apart body in
        let held_1 = held-right bytes q (joined area) (joined front ++ (joined middle ++ joined back)) held in
        let held_2 = held-right bytes (q + length (joined area)) (joined front) (joined middle ++ joined back) held_1 in
        let held_3 = held-right bytes (q + length (joined area) + length (joined front)) (joined middle) (joined back) held_2 in
        let at_front : q + length (joined area) ≡ q + AREA = omega arith in
        let at_back : q + length (joined area) + length (joined front) + length (joined middle) ≡ q + back_at d = omega arith in
        All-append (SeeksElement bytes h) (seeks_from AREA front) (seeks_from (back_at d) back)
        (seeks-read bytes h front AREA are_front (subst (λ (k : ℕ). HoldsAt bytes k (joined front)) at_front (held-left bytes (q + length (joined area)) (joined front) (joined middle ++ joined back) held_1)) (omega arith))
        (seeks-read bytes h back (back_at d) are_back (subst (λ (k : ℕ). HoldsAt bytes k (joined back)) at_back held_3) (omega arith))

pub layout-read : (d : Document) → IsSoundDocument d → IsReadAs d (layout d)
layout-read d is = subst (IsReadAs d) (sym (layout-is d is)) (read-as d is)
