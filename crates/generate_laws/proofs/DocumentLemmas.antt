-- A document of small blocks, without other records than Info and Tracks, is valid.
use Rattle.std.specs.List.{All}
use Rattle.std.specs.Str.{IsUtf8}
use Rattle.std.proofs.Common.{◌≡◌, ℕ, ◌+◌, ◌*◌, ◌^◌, ◌≤◌, false, List, [], ◌++◌, length, None, refl, sym, ap, subst, ◌∙◌, length-append, arith, map, true}
use Rattle.std.proofs.lemmas.List.{length-take}
use Rattle.std.proofs.lemmas.List.Concat.{flat_map-append}
use Rattle.std.proofs.lemmas.List.Elements.{All-nil}
use lib.Utf8.{encode}
use Rattle.requests.specs.Plain.{plain_file}
use Rattle.ebml_numbers.specs.Number.{is_id, least_size_width, uint_width}
use Rattle.mkv_schema.specs.declared.ids.TheConstants.{INFO, MUXING_APP, WRITING_APP}
use Rattle.mkv_schema.specs.Schema.{entry_of}
use Rattle.mkv_schema.specs.Table.{table}
use Rattle.tree_format.specs.Node.{Node}
use Rattle.tree_format.specs.NormalForm.{content}
use Rattle.tree_format.specs.Standing.{kept, placed}
use Rattle.ebml_tree.proofs.LeafLemmas.{text-stands}
use Rattle.file_format.specs.FileBlocks.{file_events}
use Rattle.file_format.specs.Entry.{entries_of, type_of}
use Rattle.track_records.specs.Track.{track_of}
use Rattle.block_format.specs.Events.{Event}
use Rattle.output_model.specs.declared.rule.CueRule.{CueRule}
use Rattle.output_model.specs.declared.TheConstants.{MAX_CUES}
use Rattle.output_model.specs.Cued.{document_of, is_cue}
use Rattle.output_model.specs.Cues.{cues_elements, points_from}
use Rattle.output_model.specs.Document.{Document, Front, back_elements, clusters_at, clusters_elements, elements_behind_area, front_elements, layout, tree_element}
use Rattle.output_model.specs.Element.{joined, octets_of}
use Rattle.output_model.specs.OutputBlock.{OutputBlock}
use Rattle.output_model.specs.Sound.{AreTracks, IsAttachment, IsRecord, IsSoundCluster, IsSoundDocument}
use Rattle.output_records.specs.Info.{application, output_info}
use Rattle.output_records.proofs.OutputLemmas.{info-scale, muxing-in, writing-in}
use Rattle.cues_seekhead.proofs.LayoutLemmas.{length-layout}
use Rattle.output_laws.specs.Lanes.{blocks_read}
use Rattle.output_laws.specs.Reading.{header_of_segment}
use Rattle.output_laws.proofs.LayoutLemmas.{layout-read}
use Rattle.output_laws.proofs.OrderLemmas.{order-again}
use Rattle.output_laws.proofs.AreaLemmas.{HasIds, length-area_of}
use Rattle.output_laws.proofs.MergedClusterLemmas.{IsOf, clusters-sound}
use Rattle.merge_inputs.specs.Taken.{first_unusable, taken_from}
use Rattle.merge_inputs.specs.declared.taken.TakenTrack.{TakenTrack}
use Rattle.mkv_generate.specs.Files.{default_limits}
use Rattle.merge_laws.specs.Merge.{HasNoEncodings}
use Rattle.merge_laws.specs.Sources.{is_taken_type}
use Rattle.generate_laws.specs.Files.{HoldsBlocks}
use Rattle.generate_laws.proofs.LengthLemmas.{IsSmall, clusters-most, cues-most, element-most}

-- ---- the Info

-- the Info of every generated file
abbrev pub plain_info : Node
plain_info = output_info 1000000 []

pub info-long : length (content plain_info) ≡ 33
unfolding uint_width least_size_width
info-long = refl

application-text : IsUtf8 application
unfolding encode
application-text = (application, (refl, refl))

info-record : IsRecord INFO plain_info
unfolding uint_width entry_of table is_id
info-record = record {
  id = refl;
  master = refl;
  sound = (
    record { id_stands = refl; no_master = refl; value = refl },
    (text-stands INFO MUXING_APP application muxing-in application-text, (text-stands INFO WRITING_APP application writing-in application-text, tt)),
  );
  limits = record { long = omega (arith, info-long); deep = omega arith };
}

-- ---- the document

-- the tracks that a merge of the file `name` without options selects, if its Tracks Element is read at `place`
abbrev pub taken_at : List ℕ → ℕ → Node → List TakenTrack
taken_at name place tracks = taken_from (plain_file name) 0 (map track_of (entries_of (placed place tracks)))

-- The Tracks Element is valid, has `lanes` output tracks, is short and has no ContentEncodings.
-- A merge can select and use its tracks.
pub record HasLanes (lanes : ℕ) (tracks : Node) : Type 0 where
  pub are : AreTracks tracks
  pub many : length (entries_of tracks) ≡ lanes
  pub short : length (content tracks) ≤ 1000
  pub few : kept tracks ≤ 100
  pub plain : All HasNoEncodings (entries_of tracks)
  pub types : All (λ (entry : Node). is_taken_type (type_of entry) ≡ true) (entries_of tracks)
  pub usable : (name : List ℕ) (place : ℕ) → first_unusable (taken_at name place tracks) ≡ None

-- the Elements before the Clusters, with the given Tracks
abbrev pub plain_front : Node → Front
plain_front tracks = record { webm = false; lasting = None; info = plain_info; tracks = tracks; attachments = [] }

-- the output of the blocks `bs` on these tracks
abbrev pub plain_document : List CueRule → Node → List OutputBlock → Document
plain_document rules tracks bs = document_of default_limits rules (plain_front tracks) None None bs

module _ (rules : List CueRule) (tracks : Node) (lanes : ℕ) (has : HasLanes lanes tracks) (bs : List OutputBlock) where
  abbrev d : Document
  d = plain_document rules tracks bs

  d-ids : HasIds d
  d-ids = record { info = refl; tracks = has.are.is.id; chapters = tt; tags = tt }

  layout-most : All IsSmall bs → length (layout d) ≤ 1500 + 172 * length bs + 128 * MAX_CUES
  layout-most small =
      let whole = length-layout d (length-area_of d d-ids) in
      let front : List ℕ = joined (front_elements d.front) in
      let middle : List ℕ = joined (clusters_elements d.clusters) in
      let back : List ℕ = joined (back_elements d) in
      let apart : joined (elements_behind_area d) ≡ front ++ (middle ++ back) =
      flat_map-append octets_of (front_elements d.front) (clusters_elements d.clusters ++ back_elements d)
      ∙ ap (λ (o : List ℕ). front ++ o) (flat_map-append octets_of (clusters_elements d.clusters) (back_elements d)) in
      let parts : length (joined (elements_behind_area d)) ≡ length front + (length middle + length back) =
      ap length apart ∙ length-append front (middle ++ back) ∙ ap (λ (n : ℕ). length front + n) (length-append middle back) in
      let first : List ℕ = octets_of (tree_element plain_info) in
      let second : List ℕ = octets_of (tree_element tracks) in
      let cues : List ℕ = joined (cues_elements d.cues) in
      let last : back ≡ cues ++ [] = flat_map-append octets_of (cues_elements d.cues) ([] ++ []) in
      let few : length d.cues ≤ MAX_CUES = omega (arith, length-take MAX_CUES (points_from (is_cue rules) (clusters_at d.front) d.clusters)) in
      let short = has.short in
      omega (
        arith,
        ap length last,
        length-append cues [],
        cues-most d.cues,
        clusters-most default_limits bs small,
        length-append first (second ++ []),
        length-append second [],
        element-most INFO (content plain_info),
        info-long,
        element-most (tree_element tracks).id (content tracks),
      )

  -- It is valid if its blocks are valid, small and at most 2^20.
  pub document-sound : All (IsOf lanes) bs → All IsSmall bs → length bs ≤ 2 ^ 20 → IsSoundDocument d
  document-sound are small few =
      let most = layout-most small in
      record {
        info = info-record;
        scale = omega (arith, info-scale 1000000 [] (omega arith));
        tracks = has.are;
        attachments = All-nil IsAttachment;
        clusters = subst (λ (n : ℕ). All (IsSoundCluster n) d.clusters) (sym has.many) (clusters-sound lanes default_limits bs are);
        cued = is_cue rules;
        cues = refl;
        chapters = tt;
        tags = tt;
        short = omega arith;
      }

  -- It holds its blocks, too.
  pub document-holds : All (IsOf lanes) bs → All IsSmall bs → length bs ≤ 2 ^ 20 → HoldsBlocks d bs
  document-holds are small few =
      let sound = document-sound are small few in
      let events : List Event = file_events false (layout d) (header_of_segment d) in
      record {
        sound = sound;
        read = layout-read d sound;
        plain = has.plain;
        blocks = ap (λ (scale : ℕ). blocks_read scale events) (sym (info-scale 1000000 [] (omega arith))) ∙ order-again d default_limits bs sound refl;
      }
