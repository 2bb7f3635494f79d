-- The area has its length, and the last writes don't change the length of an output.
use Rattle.std.proofs.Common.{◌≡◌, ℕ, suc, ◌+◌, ◌-◌, ◌*◌, ◌<◌, ◌≤◌, nat_le, Bool, true, false, if◌then◌else◌, List, [], ◌∷◌, ◌++◌, length, map, replicate, All, IfSome, append-nil, append_assoc, length-append, Option, None, Some, refl, sym, ap, ◌∙◌, arith}
use Rattle.std.specs.Option.{option_map}
use Rattle.std.proofs.lemmas.Bool.Decides.{nat_tests}
use Rattle.std.proofs.lemmas.List.{length-replicate}
use Rattle.std.proofs.lemmas.List.Concat.{flat_map-append}
use Rattle.std.proofs.lemmas.List.Elements.{All-nil, All-cons, All-head, All-tail, All-append, All-weaker}
use Rattle.byteorder.specs.Endian.{big_bytes}
use Rattle.byteorder.specs.Numbers.{length-bytes_high_first}
use Rattle.ebml_numbers.specs.Number.{all_ones, id_octets, uint_width}
use Rattle.ebml_numbers.proofs.NumberLemmas.{length-uint_octets, length-size_octets}
use Rattle.ebml_numbers.proofs.WidthLemmas.{least_size_width-IsLeast}
use Rattle.mkv_schema.specs.declared.ids.TheConstants.{VOID, SEEK_HEAD, SEEK, SEEK_ID, SEEK_POSITION, INFO, TRACKS, ATTACHMENTS, CUES, CHAPTERS, TAGS}
use Rattle.tree_format.specs.Node.{Node, id_of}
use Rattle.output_model.specs.Element.{Element, element, octets_of, joined, void_element}
use Rattle.output_model.proofs.ReadLemmas.{length-header_of, length-octets_of}
use Rattle.output_model.specs.declared.TheConstants.{AREA}
use Rattle.output_model.specs.declared.places.CuePoint.{CuePoint}
use Rattle.output_model.specs.declared.places.Seek.{Seek}
use Rattle.output_model.specs.Cues.{cues_elements}
use Rattle.output_model.specs.SeekHead.{seek_element, seek_head, area_elements, open_area, seeks_from}
use Rattle.output_model.specs.Duration.{duration_element}
use Rattle.output_model.specs.Document.{Document, before_duration, children_after_duration, ending_at, tree_element, tree_elements, info_element, attachments_elements, front_elements, clusters_elements, back_elements, back_at, seeks_of, file_with, unknown_size}
use Rattle.output_model.specs.Sound.{IsRecord, IsSoundDocument}
use Rattle.output_laws.specs.Layouts.{behind_area, duration_octets, DifferInDuration, DifferInThree}
use Rattle.output_model.proofs.DurationLemmas.{info-id, info-parts, length-duration}
use Rattle.output_laws.proofs.InfoLemmas.{told-id}
use Rattle.output_laws.proofs.PartLemmas.{IsShortest, shortest-attachments, shortest-cues}

-- ---- a Void

pub length-void : (total : ℕ) → 2 ≤ total → length (octets_of (void_element total)) ≡ total
unfolding uint_width
length-void total some = split (nat_le total 128) refl
  where
    split : (t : Bool) → nat_le total 128 ≡ t → length (octets_of (if t then record { id = VOID; width = 1; body = replicate (total - 2) 0 } else record { id = VOID; width = 8; body = replicate (total - 9) 0 })) ≡ total
    split true is =
        let d : Element = record { id = VOID; width = 1; body = replicate (total - 2) 0 } in
        length-octets_of d ∙ omega (arith, length-header_of d, length-replicate {A = ℕ} (total - 2) 0)
    split false is =
        let d : Element = record { id = VOID; width = 8; body = replicate (total - 9) 0 } in
        let many : 128 < total = grind (arith, nat_tests) in
        length-octets_of d ∙ omega (arith, length-header_of d, length-replicate {A = ℕ} (total - 9) 0)

-- ---- Seeks

-- The bytes of an Element with a short header, whose body is short.
length-element : (id : ℕ) (body : List ℕ) → length body < 127 → length (octets_of (element id body)) ≡ uint_width id + 1 + length body
length-element id body short =
    let d : Element = element id body in
    let least = least_size_width-IsLeast (length body) (omega arith) in
    let one = least.least 1 (omega arith) short in
    let some = least.some in
    length-octets_of d ∙ omega (arith, length-header_of d)

-- The ID of the Seek has four bytes.
abbrev HasLongId : Seek → Type 0
HasLongId s = uint_width s.id ≡ 4

length-seek : (s : Seek) → HasLongId s → length (octets_of (seek_element s)) ≡ 21
unfolding uint_width
length-seek s four =
    let first : List ℕ = octets_of (element SEEK_ID (id_octets s.id)) in
    let second : List ℕ = octets_of (element SEEK_POSITION (big_bytes 8 s.position)) in
    let id_len = length-uint_octets s.id in
    let number_len = length-bytes_high_first 8 s.position in
    let a : length first ≡ 7 = length-element SEEK_ID (id_octets s.id) (omega arith) ∙ omega arith in
    let b : length second ≡ 11 = length-element SEEK_POSITION (big_bytes 8 s.position) (omega arith) ∙ omega arith in
    let body : length (first ++ (second ++ [])) ≡ 18 = length-append first (second ++ []) ∙ omega (arith, length-append second []) in
    length-element SEEK (first ++ (second ++ [])) (omega arith) ∙ omega arith

length-seeks : (seeks : List Seek) → All HasLongId seeks → length (joined (map seek_element seeks)) ≡ 21 * length seeks
length-seeks [] long = refl
length-seeks (s ∷ seeks) long =
    let first = length-seek s (All-head HasLongId s seeks long) in
    let rest = length-seeks seeks (All-tail HasLongId s seeks long) in
    length-append (octets_of (seek_element s)) (joined (map seek_element seeks)) ∙ omega arith

-- ---- the Elements that Seeks name

abbrev IsLong : Element → Type 0
IsLong e = uint_width e.id ≡ 4

long-shortest : (own : ℕ) (es : List Element) → uint_width own ≡ 4 → All (IsShortest own) es → All IsLong es
long-shortest own es four are = All-weaker (IsShortest own) IsLong (λ e is. ap uint_width is.id ∙ four) es are

long-record : (own : ℕ) (n : Option Node) → uint_width own ≡ 4 → IfSome n (λ (m : Node). id_of m ≡ own) → All IsLong (tree_elements n)
long-record own None four is = All-nil IsLong
long-record own (Some n) four is = All-cons IsLong (tree_element n) [] (ap uint_width is ∙ four) (All-nil IsLong)

few-records : (n : Option Node) → length (tree_elements n) ≤ 1
few-records None = omega arith
few-records (Some n) = omega arith

few-attachments : (ns : List Node) → length (attachments_elements ns) ≤ 1
few-attachments [] = omega arith
few-attachments (n ∷ ns) = omega arith

few-cues : (points : List CuePoint) → length (cues_elements points) ≤ 1
few-cues [] = omega arith
few-cues (point ∷ points) = omega arith

long-seeks : (position : ℕ) (es : List Element) → All IsLong es → All HasLongId (seeks_from position es)
long-seeks position [] long = All-nil HasLongId
long-seeks position (e ∷ es) long =
    All-cons HasLongId (record { id = e.id; position = position }) (seeks_from (position + length (octets_of e)) es) (All-head IsLong e es long)
    (long-seeks (position + length (octets_of e)) es (All-tail IsLong e es long))

length-seeks_from : (position : ℕ) (es : List Element) → length (seeks_from position es) ≡ length es
length-seeks_from position [] = refl
length-seeks_from position (e ∷ es) = ap suc (length-seeks_from (position + length (octets_of e)) es)

-- ---- the area

-- The records of the document `d` have their IDs.
pub record HasIds (d : Document) : Type 0 where
  pub info : id_of d.front.info ≡ INFO
  pub tracks : id_of d.front.tracks ≡ TRACKS
  pub chapters : IfSome d.chapters (λ n. id_of n ≡ CHAPTERS)
  pub tags : IfSome d.tags (λ n. id_of n ≡ TAGS)

sound-ids : (d : Document) → IsSoundDocument d → HasIds d
sound-ids d is = record { info = sym (told-id d.front.info d.front.lasting) ∙ is.info.id; tracks = is.tracks.is.id; chapters = record-id CHAPTERS d.chapters is.chapters; tags = record-id TAGS d.tags is.tags }
  where
    record-id : (own : ℕ) (n : Option Node) → IfSome n (IsRecord own) → IfSome n (λ (m : Node). id_of m ≡ own)
    record-id own None is = tt
    record-id own (Some n) is = is.id

-- A SeekHead has at most 131 bytes, so a Void is always left.
seek_head-short : (d : Document) → HasIds d → length (octets_of (seek_head (seeks_of d))) ≤ 131
unfolding uint_width
seek_head-short d is =
    let front : List Element = front_elements d.front in
    let back : List Element = back_elements d in
    let first : List Seek = seeks_from AREA front in
    let second : List Seek = seeks_from (back_at d) back in
    let long : All HasLongId (seeks_of d) =
    All-append HasLongId first second
    (long-seeks AREA front
    (All-cons IsLong (info_element d.front.info d.front.lasting) (tree_element d.front.tracks ∷ attachments_elements d.front.attachments) (ap uint_width (info-id d.front.info d.front.lasting ∙ is.info))
    (All-cons IsLong (tree_element d.front.tracks) (attachments_elements d.front.attachments) (ap uint_width is.tracks) (long-shortest ATTACHMENTS (attachments_elements d.front.attachments) refl (shortest-attachments d.front.attachments)))))
    (long-seeks (back_at d) back
    (All-append IsLong (cues_elements d.cues) (tree_elements d.chapters ++ tree_elements d.tags) (long-shortest CUES (cues_elements d.cues) refl (shortest-cues d.cues))
    (All-append IsLong (tree_elements d.chapters) (tree_elements d.tags) (long-record CHAPTERS d.chapters refl is.chapters)
    (long-record TAGS d.tags refl is.tags)))) in
    let few_front = few-attachments d.front.attachments in
    let few_back : length back ≤ 3 =
    omega (arith, length-append (cues_elements d.cues) (tree_elements d.chapters ++ tree_elements d.tags), length-append (tree_elements d.chapters) (tree_elements d.tags), few-cues d.cues, few-records d.chapters, few-records d.tags) in
    let count : length (seeks_of d) ≤ 6 =
    omega (arith, length-append first second, length-seeks_from AREA front, length-seeks_from (back_at d) back) in
    let body : List ℕ = joined (map seek_element (seeks_of d)) in
    let len = length-seeks (seeks_of d) long in
    let whole = length-element SEEK_HEAD body (omega arith) in
    omega arith

pub length-area_of : (d : Document) → HasIds d → length (joined (area_elements (seeks_of d))) ≡ AREA
length-area_of d is =
    let seek : List ℕ = octets_of (seek_head (seeks_of d)) in
    let void : List ℕ = octets_of (void_element (AREA - length seek)) in
    let short = seek_head-short d is in
    length-append seek (void ++ []) ∙ omega (arith, length-append void [], length-void (AREA - length seek) (omega arith))

pub length-area : (d : Document) → IsSoundDocument d → length (joined (area_elements (seeks_of d))) ≡ AREA
length-area d is = length-area_of d (sound-ids d is)

length-open_area : length (joined open_area) ≡ AREA
length-open_area = ap (λ (o : List ℕ). length o) (append-nil (octets_of (void_element AREA))) ∙ length-void AREA (omega arith)

-- ---- overwritten bytes

pub duration-differs : (d : Document) → DifferInDuration d
duration-differs d =
    let rest : List Element = tree_element d.front.tracks ∷ (attachments_elements d.front.attachments ++ (clusters_elements d.clusters ++ back_elements d)) in
    let differ = of d.front.info d.front.lasting (joined rest) in
    record { before = differ.0; after = differ.1; layout_is = differ.2; opened_is = differ.3; len = differ.4 }
  where
    Differ : Node → Option ℕ → List ℕ → Type 0
    Differ info lasting rest =
        let now : Option ℕ = option_map (λ known. 0) lasting in
        (before : List ℕ) × (after : List ℕ) × (octets_of (info_element info lasting) ++ rest ≡ before ++ (duration_octets lasting ++ after))
        × (octets_of (info_element info now) ++ rest ≡ before ++ (duration_octets now ++ after)) × (length (duration_octets lasting) ≡ length (duration_octets now))

    parts : (info : Node) (end : ℕ) (rest : List ℕ) → octets_of (info_element info (Some end)) ++ rest ≡ before_duration info ++ (octets_of (duration_element end) ++ (children_after_duration info ++ rest))
    parts info end rest =
        let own : List ℕ = octets_of (duration_element end) in
        ap (λ o. o ++ rest) (info-parts info end) ∙ append_assoc (before_duration info) (own ++ children_after_duration info) rest
        ∙ ap (λ o. before_duration info ++ o) (append_assoc own (children_after_duration info) rest)

    of : (info : Node) (lasting : Option ℕ) (rest : List ℕ) → Differ info lasting rest
    of info None rest = ([], octets_of (info_element info None) ++ rest, refl, refl, refl)
    of info (Some end) rest = (before_duration info, children_after_duration info ++ rest, parts info end rest, parts info 0 rest, length-duration end ∙ sym (length-duration 0))

pub overwritten : (d : Document) → IsSoundDocument d → DifferInThree d
overwritten d is =
    let front : List Element = front_elements (ending_at 0 d.front) in
    let middle : List Element = clusters_elements d.clusters in
    let back : List Element = back_elements d in
    record {
      layout_is = refl;
      opened_is =
          ap (file_with d.front.webm unknown_size open_area)
          (ap (λ o. joined front ++ o) (sym (flat_map-append octets_of middle back)) ∙ sym (flat_map-append octets_of front (middle ++ back)));
      size = length-size_octets (AREA + length (behind_area d)) 8 ∙ sym (length-size_octets (all_ones 8) 8);
      area = length-area d is ∙ sym length-open_area;
      duration = duration-differs d;
    }
