-- The document of each output of a merge is valid.
use Rattle.std.proofs.Common.{◌≡◌, ◌<◌, ◌≤◌, ℕ, ◌^◌, Bool, true, false, if◌then◌else◌, List, [], ◌∷◌, ◌++◌, length, length-append, append_assoc, map, flat_map, take, drop, ◌+◌, max, Option, Some, None, IfSome, refl, sym, ap, subst, ◌∙◌, arith, unwrap_or}
use Rattle.std.specs.List.{All, AllZip}
use Rattle.std.specs.Str.{IsUtf8}
use Rattle.std.proofs.lemmas.List.Elements.{All-nil, All-cons, All-head, All-tail, All-append, All-weaker}
use Rattle.std.proofs.lemmas.List.{take-append-drop}
use Rattle.std.proofs.lemmas.List.Concat.{flat_map-append}
use Rattle.std.proofs.lemmas.Option.{IfSome_then}
use Rattle.std.proofs.lemmas.Str.{IsUtf8-nil}
use lib.Utf8.{encode}
use Rattle.ebml_numbers.specs.Number.{id_octets}
use Rattle.mkv_schema.specs.declared.ids.TheConstants.{ATTACHMENTS, CHAPTERS, INFO, NEXT_UUID, PREV_UUID, SEGMENT_UUID, TIMESTAMP_SCALE, TITLE, MUXING_APP, WRITING_APP, SEGMENT, ATTACHED_FILE, FILE_DATA}
use Rattle.mkv_io.specs.declared.outside.TheConstants.{LONGEST_FILE}
use Rattle.tree_format.specs.Node.{IsMaster, Node, leaf, master, nodes_of, list_of, depth_all, id_of}
use Rattle.tree_format.specs.Changes.{part, with_child}
use Rattle.tree_format.specs.NormalForm.{content, longest, octets, octets_all}
use Rattle.tree_format.specs.Standing.{AllStandIn, StandsIn}
use Rattle.tree_format.proofs.ChangeLemmas.{deep-with_child}
use Rattle.tree_format.proofs.NodeLemmas.{list-nodes, nodes-list, octets_all-flat}
use Rattle.tree_format.proofs.PartLemmas.{part-set}
use Rattle.tree_format.proofs.StandingLemmas.{sound-set}
use Rattle.output_model.specs.Attached.{with_data}
use Rattle.meta_records.proofs.TableFacts.{file_data-valid, file_data-value, no_master-in}
use Rattle.file_format.specs.Info.{scale_of}
use Rattle.output_model.specs.Element.{Element, header_of, octets_of, joined, master_element}
use Rattle.output_model.specs.declared.TheConstants.{MAX_LANES}
use Rattle.output_model.specs.Cues.{cues_elements}
use Rattle.output_model.specs.SeekHead.{area_elements}
use Rattle.output_model.specs.Duration.{duration_element}
use Rattle.output_model.specs.Document.{Document, duration_place, ebml_element, info_element, tree_element, tree_elements, attachments_elements, front_elements, clusters_elements, back_elements, elements_behind_area, seeks_of, segment_size, layout}
use Rattle.output_model.specs.Sound.{IsRecord, IsAttachment, IsSoundCluster, IsSoundDocument}
use Rattle.tree_format.specs.Children.{given, uint_leaf}
use Rattle.ebml_numbers.specs.Number.{is_id}
use Rattle.mkv_schema.specs.Table.{table}
use Rattle.mkv_schema.specs.Schema.{entry_of}
use Rattle.remux_plan.specs.Uuids.{uuid_elements, uuid_leaf, uuids_at, with_uuids}
use Rattle.remux_plan.specs.declared.uuids.PartUuids.{PartUuids}
use Rattle.output_records.specs.Info.{application, title_elements, output_info}
use Rattle.output_records.proofs.OutputLemmas.{info-scale, scale-in, title-in, muxing-in, writing-in}
use Rattle.ebml_tree.proofs.LeafLemmas.{uint-stands, text-stands}
use Rattle.output_laws.proofs.AreaLemmas.{HasIds}
use Rattle.output_laws.proofs.InfoLemmas.{told-record}
use Rattle.output_laws.proofs.MergedClusterLemmas.{IsOf, clusters-sound}
use Rattle.output_model.specs.Cued.{document_of, is_cue}
use Rattle.splitter.specs.Sections.{Part}
use Rattle.remux_plan.specs.Parts.{stretch_of}
use Rattle.requests.specs.declared.merge.MergeWords.{MergeWords}
use Rattle.requests.specs.Sound.{IsSoundMerge}
use Rattle.merge_inputs.specs.declared.taken.TakenTrack.{TakenTrack}
use Rattle.merge_plan.specs.Front.{front_of, reads_of}
use Rattle.merge_plan.specs.Plan.{Source, limits_of, rules_given}
use Rattle.merge_plan.specs.Records.{chapters_of, first_title, info_of, is_appended, tags_of, title_of, title_or, tracks_begun, tracks_of_output, tracks_ordered, tracks_taken}
use Rattle.merge_plan.proofs.OrderedLemmas.{ordered-all}
use Rattle.merge_plan.proofs.PlanLemmas.{plan-few}
use Rattle.merge_plan.proofs.RecordLemmas.{ordered-count}
use Rattle.mkv_merge.specs.Merge.{chapters_in}
use Rattle.mkv_merge.specs.Read.{is_split}
use Rattle.mkv_merge.specs.Records.{HaveRecords, IsFilled}
use Rattle.requests.specs.Texts.{AreTexts}
use Rattle.file_format.specs.Entry as tracks
use Rattle.merge_laws.specs.Merge.{HasEncodingsOf, lanes_selected}
use Rattle.merge_laws.specs.Sources.{AreSources, IsReadSource, IsReadTrack}
use Rattle.merge_laws.proofs.ChapterLemmas.{IsRecordIfShort, chapters-stand, record-short}
use Rattle.merge_laws.proofs.LaneLemmas.{lanes-length}
use Rattle.merge_laws.proofs.TracksLemmas.{taken-lanes, taken-encodings, taken-tracks}

-- ---- lengths of the records

-- The Elements after the area are a part of the file.
behind-short : (d : Document) → length (joined (elements_behind_area d)) ≤ length (layout d)
behind-short d =
    let rest : List ℕ = joined (elements_behind_area d) in
    let area : List ℕ = joined (area_elements (seeks_of d)) in
    let size : List ℕ = segment_size (length rest) in
    let ebml : List ℕ = octets_of (ebml_element d.front.webm) in
    omega (arith, length-append ebml (id_octets SEGMENT ++ (size ++ (area ++ rest))), length-append (id_octets SEGMENT) (size ++ (area ++ rest)), length-append size (area ++ rest), length-append area rest)

-- An Info has its children, with a Duration or without.
info-inside : (info : Node) (lasting : Option ℕ) → IsMaster info → length (content info) ≤ length (info_element info lasting).body
info-inside info None is = omega arith
info-inside (leaf id at body) (Some end) is = absurd (cc)
info-inside (master id at kids) (Some end) is =
    let ns : List Node = list_of kids in
    let k : ℕ = duration_place ns in
    let first : List ℕ = flat_map octets (take k ns) in
    let last : List ℕ = flat_map octets (drop k ns) in
    let inside : List ℕ = octets_of (duration_element end) in
    let whole : length (octets_all kids) ≡ length first + length last =
    ap length (ap octets_all (sym (nodes-list kids)) ∙ octets_all-flat ns ∙ ap (flat_map octets) (sym (take-append-drop k ns)) ∙ flat_map-append octets (take k ns) (drop k ns)) ∙ length-append first last in
    omega (arith, whole, length-append first (inside ++ last), length-append inside last)

-- Info and Tracks are a part, too.
module _ (d : Document) where
  others : List Element
  others = attachments_elements d.front.attachments ++ (clusters_elements d.clusters ++ back_elements d)

  pub info-short : IsMaster d.front.info → length (content d.front.info) ≤ length (layout d)
  unfolding others
  info-short is =
      let e : Element = info_element d.front.info d.front.lasting in
      let rest : List ℕ = joined (tree_element d.front.tracks ∷ others) in
      omega (arith, info-inside d.front.info d.front.lasting is, behind-short d, length-append (octets_of e) rest, length-append (header_of e) e.body)

  pub tracks-short : length (content d.front.tracks) ≤ length (layout d)
  unfolding others
  tracks-short =
      let first : Element = info_element d.front.info d.front.lasting in
      let e : Element = tree_element d.front.tracks in
      omega (arith, behind-short d, length-append (octets_of first) (joined (e ∷ others)), length-append (octets_of e) (joined others), length-append (header_of e) e.body)

-- The last Elements are a part of all.
last-short : (xs ys : List Element) → length (joined ys) ≤ length (joined (xs ++ ys))
last-short xs ys = omega (arith, ap length (flat_map-append octets_of xs ys), length-append (joined xs) (joined ys))

-- Chapters are a part, too.
chapters-short : (d : Document) → IfSome d.chapters (λ (n : Node). length (content n) ≤ length (layout d))
chapters-short d =
    let middle : List Element = clusters_elements d.clusters in
    let cues : List Element = cues_elements d.cues in
    let last : List Element = tree_elements d.chapters ++ tree_elements d.tags in
    of d.chapters (omega (arith, behind-short d, last-short (front_elements d.front) (middle ++ (cues ++ last)), last-short middle (cues ++ last), last-short cues last))
  where
    of : (o : Option Node) → length (joined (tree_elements o ++ tree_elements d.tags)) ≤ length (layout d) → IfSome o (λ (n : Node). length (content n) ≤ length (layout d))
    of None short = tt
    of (Some n) short =
        let e : Element = tree_element n in
        omega (arith, length-append (octets_of e) (joined (tree_elements d.tags)), length-append (header_of e) e.body)

-- An AttachedFile is a part of its Attachments.
each-short : (most : ℕ) (ns : List Node) → length (joined (map tree_element ns)) ≤ most → All (λ (n : Node). length (content n) ≤ most) ns
each-short most [] within = All-nil (λ (n : Node). length (content n) ≤ most)
each-short most (n ∷ ns) within =
    let e : Element = tree_element n in
    let rest : List ℕ = joined (map tree_element ns) in
    let whole = length-append (octets_of e) rest in
    let behind = length-append (header_of e) e.body in
    All-cons (λ (m : Node). length (content m) ≤ most) n ns (omega arith) (each-short most ns (omega arith))

inside-short : (ns : List Node) → length (joined (map tree_element ns)) ≤ length (joined (attachments_elements ns))
inside-short [] = omega arith
inside-short (n ∷ ns) =
    let e : Element = master_element ATTACHMENTS (map tree_element (n ∷ ns)) in
    omega (arith, length-append (octets_of e) [], length-append (header_of e) e.body)

-- Attachments are a part of the file.
files-short : (d : Document) → All (λ (n : Node). length (content n) ≤ length (layout d)) d.front.attachments
files-short d =
    let first : Element = info_element d.front.info d.front.lasting in
    let second : Element = tree_element d.front.tracks in
    let files : List Element = attachments_elements d.front.attachments in
    let rest : List Element = clusters_elements d.clusters ++ back_elements d in
    each-short (length (layout d)) d.front.attachments
    (omega (arith, inside-short d.front.attachments, behind-short d, length-append (octets_of first) (joined (second ∷ files ++ rest)), length-append (octets_of second) (joined (files ++ rest)), ap length (flat_map-append octets_of files rest), length-append (joined files) (joined rest)))

-- ---- an AttachedFile

-- FileData may have any bytes.
data-stands : (bytes : List ℕ) → StandsIn ATTACHED_FILE (leaf FILE_DATA 0 bytes)
data-stands bytes = record { id_stands = file_data-valid; no_master = no_master-in FILE_DATA; value = file_data-value bytes }

-- With data it is valid, too, unless it is too long.
filled-attachment : (entry : Node) (bytes : List ℕ) → IsAttachment entry → length (content (with_data bytes entry)) ≤ longest → IsAttachment (with_data bytes entry)
filled-attachment (leaf id at body) bytes is short = let never = is.is.master in absurd (cc)
filled-attachment (master id at kids) bytes is short =
    let entry : Node = master id at kids in
    let child : Node = leaf FILE_DATA 0 bytes in
    let low = deep-with_child child (list_of kids) in
    let same : depth_all (nodes_of (list_of kids)) ≡ depth_all kids = ap depth_all (nodes-list kids) in
    let deep = is.is.limits.deep in
    record {
      is = record {
        id = is.is.id;
        master = refl;
        sound = sound-set entry child refl is.is.sound (subst (λ (own : ℕ). StandsIn own child) (sym is.is.id) (data-stands bytes));
        limits = record { long = short; deep = omega arith };
      };
      one = ap (λ (l : List Node). length (part FILE_DATA l)) (list-nodes (with_child child (list_of kids))) ∙ ap (λ (l : List Node). length l) (part-set child (list_of kids));
    }

files-sound : (most : ℕ) (ns : List Node) → most ≤ longest → All IsFilled ns → All (λ (n : Node). length (content n) ≤ most) ns → All IsAttachment ns
files-sound most ns fits filled short = λ k d below.
    let f = filled k d below in
    let P : Node → Type 0 = IsAttachment in
    let Q : Node → Type 0 = λ n. length (content n) ≤ most in
    let long : length (content (with_data f.octets f.entry)) ≤ most = subst Q f.is (short k d below) in
    subst P (sym f.is) (filled-attachment f.entry f.octets f.attachment (omega arith))

-- ---- Info

application-text : IsUtf8 application
unfolding encode
application-text = (application, (refl, refl))

info-stands : (scale : ℕ) (title : List ℕ) → scale < 2 ^ 64 → IsUtf8 title
    → AllStandIn INFO (nodes_of (uint_leaf TIMESTAMP_SCALE scale ∷ title_elements title ++ (leaf MUXING_APP 0 application ∷ leaf WRITING_APP 0 application ∷ [])))
info-stands scale [] small text =
    (uint-stands INFO TIMESTAMP_SCALE scale scale-in small, (text-stands INFO MUXING_APP application muxing-in application-text, (text-stands INFO WRITING_APP application writing-in application-text, tt)))
info-stands scale (o ∷ octets) small text = (
  uint-stands INFO TIMESTAMP_SCALE scale scale-in small,
  (text-stands INFO TITLE (o ∷ octets) title-in text, (text-stands INFO MUXING_APP application muxing-in application-text, (text-stands INFO WRITING_APP application writing-in application-text, tt))),
)

-- ---- an Info with identifiers

-- A SegmentUUID, PrevUUID or NextUUID may have any bytes.
own-stands : (uuid : ℕ) → StandsIn INFO (uuid_leaf SEGMENT_UUID uuid)
unfolding entry_of table is_id
own-stands uuid = record { id_stands = refl; no_master = refl; value = refl }

before-stands : (uuid : ℕ) → StandsIn INFO (uuid_leaf PREV_UUID uuid)
unfolding entry_of table is_id
before-stands uuid = record { id_stands = refl; no_master = refl; value = refl }

next-stands : (uuid : ℕ) → StandsIn INFO (uuid_leaf NEXT_UUID uuid)
unfolding entry_of table is_id
next-stands uuid = record { id_stands = refl; no_master = refl; value = refl }

-- The Elements `ns` are valid children of Info without children of their own.
record StandsFlat (ns : List Node) : Type 0 where
  stand : AllStandIn INFO (nodes_of ns)
  flat : depth_all (nodes_of ns) ≡ 0

given-flat : (id : ℕ) → ((uuid : ℕ) → StandsIn INFO (uuid_leaf id uuid)) → (o : Option ℕ) (ns : List Node) → StandsFlat ns → StandsFlat (given (uuid_leaf id) o ++ ns)
given-flat id stands None ns others = others
given-flat id stands (Some uuid) ns others = record { stand = (stands uuid, others.stand); flat = ap (λ (n : ℕ). max 0 n) others.flat }

uuids-flat : (u : PartUuids) (ns : List Node) → StandsFlat ns → StandsFlat (uuid_elements u ++ ns)
uuids-flat u ns others =
    subst StandsFlat
    (sym (append_assoc (given (uuid_leaf SEGMENT_UUID) u.own) (given (uuid_leaf PREV_UUID) u.before ++ given (uuid_leaf NEXT_UUID) u.next) ns
    ∙ ap (λ (ms : List Node). given (uuid_leaf SEGMENT_UUID) u.own ++ ms) (append_assoc (given (uuid_leaf PREV_UUID) u.before) (given (uuid_leaf NEXT_UUID) u.next) ns)))
    (given-flat SEGMENT_UUID own-stands u.own _ (given-flat PREV_UUID before-stands u.before _ (given-flat NEXT_UUID next-stands u.next ns others)))

-- the children of Info after the scale
abbrev behind_scale : List ℕ → List Node
behind_scale title = title_elements title ++ (leaf MUXING_APP 0 application ∷ leaf WRITING_APP 0 application ∷ [])

-- The Info has its identifiers.
own-info : (u : PartUuids) (scale : ℕ) (title : List ℕ) → with_uuids u (output_info scale title) ≡ master INFO 0 (nodes_of (uint_leaf TIMESTAMP_SCALE scale ∷ (uuid_elements u ++ behind_scale title)))
unfolding with_uuids
own-info u scale title = ap (λ (ns : List Node). master INFO 0 (nodes_of (uint_leaf TIMESTAMP_SCALE scale ∷ (uuid_elements u ++ ns)))) (list-nodes (behind_scale title))

-- It is a record, too.
pub own-record : (u : PartUuids) (scale : ℕ) (title : List ℕ) → scale < 2 ^ 64 → IsUtf8 title → length (content (with_uuids u (output_info scale title))) ≤ longest → IsRecord INFO (with_uuids u (output_info scale title))
own-record u scale title small text =
    subst (λ (n : Node). length (content n) ≤ longest → IsRecord INFO n) (sym (own-info u scale title))
    (λ short.
    let stand = info-stands scale title small text in
    let flat : depth_all (nodes_of (behind_scale title)) ≡ 0 = behind-flat title in
    let whole = uuids-flat u (behind_scale title) (record { stand = stand.1; flat = flat }) in
    let none = whole.flat in
    record { id = refl; master = refl; sound = (stand.0, whole.stand); limits = record { long = short; deep = omega arith } })
  where
    behind-flat : (its : List ℕ) → depth_all (nodes_of (behind_scale its)) ≡ 0
    behind-flat [] = refl
    behind-flat (o ∷ octets) = refl

-- It keeps its scale.
pub own-scale : (u : PartUuids) (scale : ℕ) (title : List ℕ) → scale_of (with_uuids u (output_info scale title)) ≡ scale_of (output_info scale title)
own-scale u scale title = ap scale_of (own-info u scale title)

-- ---- conditions on the title

title-first : (P : List ℕ → Type 0) → P [] → (sources : List Source) → All (λ (s : Source). P s.1.title) sources → P (first_title (reads_of sources))
title-first P none [] each = none
title-first P none (s ∷ ss) each = of s.1.title (All-head (λ (x : Source). P x.1.title) s ss each) (title-first P none ss (All-tail (λ (x : Source). P x.1.title) s ss each))
  where
    of : (title : List ℕ) → P title → P (first_title (reads_of ss)) → P (title_or title (first_title (reads_of ss)))
    of [] own rest = rest
    of (o ∷ octets) own rest = own

title-given : (P : List ℕ → Type 0) (given : Option (List ℕ)) (other : List ℕ) → IfSome given P → P other → P (unwrap_or given other)
title-given P None other text rest = rest
title-given P (Some title) other text rest = text

-- A fact about the title on the command line and the title of each source holds for the title of the merge.
pub title-is : (P : List ℕ → Type 0) → P [] → (words : MergeWords) (sources : List Source) → IfSome words.title P → All (λ (s : Source). P s.1.title) sources → P (title_of words (reads_of sources))
title-is P none words sources given each = title-given P words.title (first_title (reads_of sources)) given (title-first P none sources each)

-- ---- Tracks

-- A fact about each track of the sources holds for the tracks that begin output tracks.
pub tracks-are : (P : TakenTrack → Type 0) (sources : List Source) → All (λ (s : Source). All P s.1.taken) sources → All P (tracks_taken (reads_of sources))
tracks-are P [] each = All-nil P
tracks-are P (s ∷ ss) each =
    All-append P (tracks_begun s.1) (tracks_taken (reads_of ss)) (of (is_appended s.1) (All-head (λ (x : Source). All P x.1.taken) s ss each))
    (tracks-are P ss (All-tail (λ (x : Source). All P x.1.taken) s ss each))
  where
    of : (b : Bool) → All P s.1.taken → All P (if b then [] else s.1.taken)
    of true tracks = All-nil P
    of false tracks = tracks

-- These tracks can be written, in any order.
pub all-tracks : (order : List (ℕ × ℕ)) (sources : List Source) → All IsReadSource sources → All IsReadTrack (tracks_ordered order (reads_of sources))
all-tracks order sources each =
    ordered-all IsReadTrack order (reads_of sources) (tracks_taken (reads_of sources))
    (tracks-are IsReadTrack sources (All-weaker IsReadSource (λ (s : Source). All IsReadTrack s.1.taken) (λ s is. is.tracks) sources each))

-- ---- the document

-- the document of the part `number`, with the attached files `files`
abbrev pub document_with : MergeWords → List Source → ℕ → List Node → Part → Document
document_with words sources number files part =
    document_of (limits_of words) (rules_given words.order (reads_of sources)) (record (front_of words sources) { info = with_uuids (uuids_at words.uuids words.link number) (front_of words sources).info; attachments = files }) (chapters_in words sources part) (tags_of words.order (reads_of sources)) part.blocks

-- The Chapters in a part can be written if they aren't too long.
part-chapters : (words : MergeWords) (sources : List Source) (part : Part) → HaveRecords words sources → IfSome (chapters_in words sources part) (IsRecordIfShort CHAPTERS)
part-chapters words sources part have = chapters-stand (is_split words) (stretch_of words.scale part.start part.end) (chapters_of (reads_of sources)) have.chapters

-- Info, Tracks, Chapters and Tags have their IDs.
pub document-ids : (words : MergeWords) (sources : List Source) (number : ℕ) (files : List Node) (part : Part) → HaveRecords words sources → HasIds (document_with words sources number files part)
document-ids words sources number files part have = record {
  info = ap id_of (own-info (uuids_at words.uuids words.link number) words.scale (title_of words (reads_of sources)));
  tracks = refl;
  chapters = IfSome_then (chapters_in words sources part) (part-chapters words sources part have) (λ n is. is.read.id);
  tags = IfSome_then (tags_of words.order (reads_of sources)) have.tags (λ n is. is.id);
}

module _ (words : MergeWords) (sources : List Source) (sound : IsSoundMerge words) (texts : AreTexts words) (are : AreSources words sources) where
  scale-small : words.scale < 2 ^ 64
  scale-small = let most = sound.scale.most in omega arith

  -- the tracks that begin output tracks, in the order of the output
  abbrev tracks_in : List TakenTrack
  tracks_in = tracks_ordered words.order (reads_of sources)

  tracks-many : length tracks_in ≡ length (tracks_taken (reads_of sources))
  tracks-many = ordered-count words.order (reads_of sources)

  tracks-few : length tracks_in ≤ MAX_LANES
  tracks-few = let few = plan-few words (reads_of sources) are.unrefused in let many = tracks-many in omega arith

  lanes-as_many : length (tracks.entries_of (tracks_of_output words.order (reads_of sources))) ≡ length (lanes_selected words sources)
  lanes-as_many = taken-lanes tracks_in (all-tracks words.order sources are.each) tracks-few ∙ tracks-many ∙ sym (lanes-length words sources)

  -- Its tracks have the ContentEncodings of tracks that are taken as they are stored, and no others.
  pub document-encodings : AllZip HasEncodingsOf tracks_in (tracks.entries_of (tracks_of_output words.order (reads_of sources)))
  document-encodings = taken-encodings tracks_in (all-tracks words.order sources are.each) tracks-few

  -- The scale of its Info is the scale on the command line.
  pub document-scale : (number : ℕ) → scale_of (with_uuids (uuids_at words.uuids words.link number) (info_of words (reads_of sources))) ≡ words.scale
  document-scale number = own-scale (uuids_at words.uuids words.link number) words.scale (title_of words (reads_of sources)) ∙ info-scale words.scale (title_of words (reads_of sources)) scale-small

  -- It is valid if its records can be written and its blocks belong to the output tracks.
  pub document-sound : (number : ℕ) (files : List Node) (part : Part) → HaveRecords words sources → All IsFilled files → All (IsOf (length (lanes_selected words sources))) part.blocks
      → length (layout (document_with words sources number files part)) ≤ LONGEST_FILE → IsSoundDocument (document_with words sources number files part)
  document-sound number files part have filled blocks short =
      let d : Document = document_with words sources number files part in
      let some = sound.scale.least in
      let is_master : IsMaster d.front.info = subst IsMaster (sym (own-info (uuids_at words.uuids words.link number) words.scale (title_of words (reads_of sources)))) refl in
      let text = title-is IsUtf8 IsUtf8-nil words sources texts.title (All-weaker IsReadSource (λ (s : Source). IsUtf8 s.1.title) (λ s is. is.title) sources are.each) in
      record {
        info = told-record d.front.info d.front.lasting (own-record (uuids_at words.uuids words.link number) words.scale (title_of words (reads_of sources)) scale-small text (omega (arith, info-short d is_master)))
            (omega (arith, info-short d is_master));
        scale = omega (arith, document-scale number);
        tracks = taken-tracks tracks_in (all-tracks words.order sources are.each) tracks-few (omega (arith, tracks-short d));
        attachments = files-sound (length (layout d)) files (omega arith) filled (files-short d);
        clusters = subst (λ (n : ℕ). All (IsSoundCluster n) d.clusters) (sym lanes-as_many) (clusters-sound (length (lanes_selected words sources)) (limits_of words) part.blocks blocks);
        cued = is_cue (rules_given words.order (reads_of sources));
        cues = refl;
        chapters = record-short CHAPTERS (length (layout d)) d.chapters (omega arith) (part-chapters words sources part have) (chapters-short d);
        tags = have.tags;
        short = short;
      }
