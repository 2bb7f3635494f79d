-- A merge without options reads such a file as the document that was written.
use Rattle.std.specs.List.{All, AllZip, sum_by}
use Rattle.std.specs.Option.{option_map}
use Rattle.std.proofs.Common.{◌≡◌, ℕ, ◌+◌, ◌*◌, ◌≤◌, ◌==◌, nat_le, Bool, true, false, not, ◌&&◌, if◌then◌else◌, List, [], ◌∷◌, ◌++◌, length, map, None, Some, Option, Result, Ok, refl, sym, ap, subst, ◌∙◌, arith, ◌-◌, replicate}
use Rattle.std.proofs.lemmas.List.Elements.{All-nil, All-cons, All-append}
use Rattle.mkv_io.specs.declared.damage.Damage.{Damage}
use Rattle.requests.specs.Plain.{plain_file}
use Rattle.ebml_numbers.specs.Number.{least_size_width, uint_width}
use Rattle.mkv_schema.specs.declared.ids.TheConstants.{CLUSTER, VOID}
use Rattle.mkv_schema.specs.declared.element.Header.{Header}
use Rattle.mkv_schema.specs.declared.limits.TheConstants.{MAX_HEADER_LEN}
use Rattle.mkv_schema.specs.Element.{known}
use Rattle.mkv_schema.specs.Outline.{Outlined, described, is_described, others, outline_of}
use Rattle.tree_format.specs.Node.{Node}
use Rattle.tree_format.specs.NormalForm.{content}
use Rattle.tree_format.specs.Standing.{placed}
use Rattle.file_format.specs.Entry.{entries_of}
use Rattle.track_records.specs.Track.{track_of}
use Rattle.meta_records.specs.Attached.{AttachedFile}
use Rattle.meta_records.specs.Records.{FileRecords, file_records}
use Rattle.block_format.specs.Elements.{with_limits}
use Rattle.block_format.specs.Events.{events_of}
use Rattle.output_model.specs.Sound.{IsSoundDocument}
use Rattle.output_model.specs.declared.places.CuePoint.{CuePoint}
use Rattle.output_model.specs.declared.rule.CueRule.{CueRule}
use Rattle.output_model.specs.declared.TheConstants.{AREA}
use Rattle.output_model.specs.Cluster.{OutputCluster, cluster_element}
use Rattle.output_model.specs.Cues.{cues_elements}
use Rattle.output_model.specs.Document.{Document, clusters_elements, ebml_element, layout, seeks_of, tree_element}
use Rattle.output_model.specs.Element.{header_in_place, headers_in_place, octets_of, void_element}
use Rattle.output_model.specs.OutputBlock.{OutputBlock}
use Rattle.output_model.specs.SeekHead.{seek_head}
use Rattle.output_laws.specs.Reading.{header_of_segment, level_1_of, outline_of_document}
use Rattle.output_laws.proofs.LayoutLemmas.{layout-read}
use Rattle.input_files.specs.Names.{begins_ebml, is_srt, is_srt_name}
use Rattle.merge_inputs.specs.Input.{Clusters, InputRead, file_read, found_then, input_of, input_with, refusal_of, text_read}
use Rattle.merge_inputs.specs.Input.{input_or_refusal as unless_unusable}
use Rattle.merge_inputs.specs.Taken.{taken_from}
use Rattle.merge_inputs.specs.declared.input.InputRefusal.{InputRefusal}
use Rattle.merge_inputs.specs.declared.input.InputRefusal.TheVariants.{Damaged}
use Rattle.merge_plan.specs.Plan.{Source}
use Rattle.remerge_laws.specs.AgainLanes.{IsReadOfOutput}
use Rattle.remerge_laws.specs.AgainTracks.{ArePlainTracks, AreTakenOf}
use Rattle.remerge_laws.specs.Files.{IsFileOf}
use Rattle.remerge_laws.specs.Placed.{MayStandAs}
use Rattle.remerge_laws.specs.Records.{IsReadWithLimits, RecordsOfOutput}
use Rattle.remerge_laws.specs.Repeat.{source_again}
use Rattle.remerge_laws.proofs.AgainTrackLemmas.{tracks-taken}
use Rattle.remerge_laws.proofs.BlockLemmas.{own-scale}
use Rattle.remerge_laws.proofs.OutlineLemmas.{IsShortHeader, described-append, none-passed, others-append, outline-within}
use Rattle.generate_laws.proofs.DocumentLemmas.{info-long, plain_document, plain_info, taken_at}
use Rattle.generate_laws.proofs.LimitLemmas.{IsPlain, keeps-limits, read-with_limits, sound}

-- ---- Elements of level 1

-- `many` of the Elements aren't Clusters, and each of these with a limit on its length has at most 1,000 bytes.
record AreLight (many : ℕ) (hs : List Header) : Type 0 where
  short : All IsShortHeader hs
  size : described hs ≤ 1000 * many
  few : others hs ≤ many

light-none : AreLight 0 []
light-none = record { short = All-nil IsShortHeader; size = omega arith; few = omega arith }

light-then : (m n : ℕ) (h : Header) (hs : List Header) → AreLight m (h ∷ []) → AreLight n hs → AreLight (m + n) (h ∷ hs)
light-then m n h hs one rest =
    let size = one.size in
    let size_too = rest.size in
    let few = one.few in
    let few_too = rest.few in
    record {
      short = All-append IsShortHeader (h ∷ []) hs one.short rest.short;
      size = omega (arith, described-append (h ∷ []) hs);
      few = omega (arith, others-append (h ∷ []) hs);
    }

-- One Element with another ID.
light-other : (h : Header) → is_described h.id ≡ false → AreLight 1 (h ∷ [])
light-other h is =
    let none : described (h ∷ []) ≡ 0 = ap (λ (t : Bool). sum_by (λ (x : Header). known x.size) (if t then h ∷ [] else [])) is in
    record {
      short = All-cons IsShortHeader h [] (λ own. let never : true ≡ false = sym own ∙ is in absurd (cc)) (All-nil IsShortHeader);
      size = omega arith;
      few = of (not (h.id == CLUSTER));
    }
  where
    of : (t : Bool) → sum_by (λ (x : Header). if t then 1 else 0) (h ∷ []) ≤ 1
    of true = omega arith
    of false = omega arith

-- One short record.
light-record : (p : ℕ) (n : Node) → length (content n) ≤ 1000 → AreLight 1 (header_in_place p (tree_element n) ∷ [])
light-record p n few =
    let h : Header = header_in_place p (tree_element n) in
    record {
      short = All-cons IsShortHeader h [] (λ own. omega arith) (All-nil IsShortHeader);
      size = heavy (is_described h.id);
      few = of (not (h.id == CLUSTER));
    }
  where
    heavy : (t : Bool) → sum_by (λ (x : Header). known x.size) (if t then header_in_place p (tree_element n) ∷ [] else []) ≤ 1000 * 1
    heavy true = omega arith
    heavy false = omega arith

    of : (t : Bool) → sum_by (λ (x : Header). if t then 1 else 0) (header_in_place p (tree_element n) ∷ []) ≤ 1
    of true = omega arith
    of false = omega arith

light-void : (p total : ℕ) → AreLight 1 (header_in_place p (void_element total) ∷ [])
light-void p total = light-other (header_in_place p (void_element total)) (of (nat_le total 128))
  where
    of : (t : Bool) → is_described (header_in_place p (if t then record { id = VOID; width = 1; body = replicate (total - 2) 0 } else record { id = VOID; width = 8; body = replicate (total - 9) 0 })).id ≡ false
    of true = refl
    of false = refl

light-cues : (p : ℕ) (ps : List CuePoint) → AreLight 1 (headers_in_place p (cues_elements ps ++ []))
light-cues p [] = record { short = All-nil IsShortHeader; size = omega arith; few = omega arith }
light-cues p (point ∷ ps) = light-other _ refl

light-clusters : (p : ℕ) (cs : List OutputCluster) (ps : List CuePoint) → AreLight 1 (headers_in_place p (clusters_elements cs ++ (cues_elements ps ++ [])))
light-clusters p [] ps = light-cues p ps
light-clusters p (c ∷ cs) ps =
    let h : Header = header_in_place p (cluster_element c) in
    light-then 0 1 h (headers_in_place (p + length (octets_of (cluster_element c))) (clusters_elements cs ++ (cues_elements ps ++ [])))
    (record { short = All-cons IsShortHeader h [] (λ own. absurd (cc)) (All-nil IsShortHeader); size = omega arith; few = omega arith })
    (light-clusters (p + length (octets_of (cluster_element c))) cs ps)

-- ---- records

-- the records of such a file, if its Info and its Tracks are read at these places
abbrev pub plain_records : ℕ → ℕ → Node → FileRecords
plain_records info_at tracks_at tracks = record {
  info = Some (placed info_at plain_info);
  tracks = map track_of (entries_of (placed tracks_at tracks));
  attachments = [];
  chapters = None;
  tags = None;
}

info-there : (o : Option Node) → MayStandAs (Some plain_info) o → (p : ℕ) × (o ≡ Some (placed p plain_info))
info-there None stands = absurd stands
info-there (Some m) stands = (stands.0, ap (λ (n : Node). Some n) stands.1)

none-there : (o : Option Node) → MayStandAs None o → o ≡ None
none-there None stands = refl
none-there (Some m) stands = absurd stands

no-files : (P : Node → AttachedFile → Type 0) (files : List AttachedFile) → AllZip P [] files → files ≡ []
no-files P [] are = refl
no-files P (a ∷ files) are = absurd are

-- ---- the source

-- such a file as a source of a merge without options
abbrev pub source_at : List ℕ → Document → ℕ → ℕ → Node → Source
source_at name d info_at tracks_at tracks = source_again name d (plain_records info_at tracks_at tracks)

-- A merge reads the file `name` with the output of `d` as this source, after at most 100,000 bytes of other records.
pub record IsReadPlain (name : List ℕ) (d : Document) (tracks : Node) : Type 0 where
  pub info_at : ℕ
  pub tracks_at : ℕ
  pub found : (held : ℕ) → held ≤ 100000 → input_of (plain_file name) false held (layout d) ≡ Ok (source_at name d info_at tracks_at tracks).1
  pub output : IsReadOfOutput d (source_at name d info_at tracks_at tracks).1
  pub taken : AreTakenOf tracks (taken_at name tracks_at tracks)
  pub light : (source_at name d info_at tracks_at tracks).1.held ≤ 8000

-- The content begins with an EBML header, so it isn't a text.
begins : (d : Document) → begins_ebml (layout d) ≡ true
unfolding uint_width
begins d = refl

not-text : (name : List ℕ) (d : Document) → is_srt name (layout d) ≡ false
not-text name d = of (is_srt_name name)
  where
    of : (b : Bool) → (b && not (begins_ebml (layout d))) ≡ false
    of true = ap not (begins d)
    of false = refl

ebml-short : length (ebml_element false).body ≤ MAX_HEADER_LEN
unfolding uint_width least_size_width
ebml-short = omega arith

module _ (rules : List CueRule) (tracks : Node) (lanes : ℕ) (bs : List OutputBlock) (is : IsPlain lanes tracks bs) (name : List ℕ) where
  abbrev d : Document
  d = plain_document rules tracks bs

  good-sound : IsSoundDocument d
  good-sound = sound rules tracks lanes bs is

  read : IsReadWithLimits d
  read = read-with_limits rules tracks lanes bs is

  abbrev outline : Outlined
  outline = outline_of_document d (length (layout d))

  all-light : AreLight 5 (level_1_of d)
  all-light =
      let total : ℕ = AREA - length (octets_of (seek_head (seeks_of d))) in
      let short = is.has.short in
      light-then 1 4 _ _ (light-other _ refl)
      (light-then 1 3 _ _ (light-void _ total)
      (light-then 1 2 _ _ (light-record _ plain_info (omega (arith, info-long)))
      (light-then 1 1 _ _ (light-record _ tracks (omega arith))
      (light-clusters _ d.clusters d.cues))))

  outlined : (held : ℕ) → held ≤ 100000 → outline_of held (layout d) ≡ Ok outline
  outlined held most =
      let light = all-light in
      let size = light.size in
      let few = light.few in
      outline-within held (layout d) outline (layout-read d good-sound).outline ebml-short
      (none-passed held [] (level_1_of d) light.short (omega arith) (omega arith))

  plain-tracks : ArePlainTracks tracks
  plain-tracks = record { numbers = is.has.are.numbers; types = is.has.types; plain = is.has.plain }

  -- the input for an outline and records, unless a track can't be used
  abbrev input_by : Outlined → FileRecords → Result InputRead InputRefusal
  input_by o r = unless_unusable (refusal_of (taken_from (plain_file name) 0 r.tracks)) (input_with (plain_file name) false o r)

  module _ (r : FileRecords) (found : file_records (layout d) (header_of_segment d) ≡ Ok r) (of_d : RecordsOfOutput d r) where
    there : (p : ℕ) × (r.info ≡ Some (placed p plain_info))
    there = info-there r.info of_d.info

    same : r ≡ plain_records there.0 of_d.tracks.place tracks
    same = λ i. record {
      info = there.1 i;
      tracks = of_d.tracks.stand i;
      attachments = no-files (IsFileOf (layout d)) r.attachments of_d.attachments i;
      chapters = none-there r.chapters of_d.chapters i;
      tags = none-there r.tags of_d.tags i;
    }

    abbrev source : Source
    source = source_at name d there.0 of_d.tracks.place tracks

    read-so : (held : ℕ) → held ≤ 100000 → input_of (plain_file name) false held (layout d) ≡ Ok source.1
    read-so held most =
        ap (λ (text : Bool). if text then text_read (plain_file name) (layout d) else file_read (plain_file name) false held (layout d)) (not-text name d)
        ∙ ap (λ (o : Result Outlined Damage). found_then o (λ (x : Outlined). found_then (file_records (layout d) x.segment) (input_by x))) (outlined held most)
        ∙ ap (λ (o : Result FileRecords Damage). found_then o (input_by outline)) (found ∙ ap (λ (x : FileRecords). Ok x) same)
        ∙ ap (λ (unusable : Option Damage). unless_unusable (option_map Damaged unusable) source.1) (is.has.usable name of_d.tracks.place)

    taken-of : AreTakenOf tracks (taken_at name of_d.tracks.place tracks)
    taken-of = subst (λ (x : FileRecords). AreTakenOf tracks (taken_from (plain_file name) 0 x.tracks)) same (tracks-taken name tracks r.tracks plain-tracks of_d.tracks)

    of-output : IsReadOfOutput d (source_again name d r).1
    of-output =
        let taken = tracks-taken name tracks r.tracks plain-tracks of_d.tracks in
        let keeps = keeps-limits rules tracks lanes bs is in
        record {
          blocks = ap (Clusters (header_of_segment d)) of_d.scale;
          events = ap (λ (n : ℕ). events_of (with_limits n) (layout d) (header_of_segment d)) (of_d.scale ∙ sym (own-scale d good-sound keeps.records.lasting keeps.records.info)) ∙ read.events;
          alone = refl;
          times = refl;
          numbers = taken.numbers;
          plain = taken.plain;
        }

    read-as : IsReadPlain name d tracks
    read-as = record {
      info_at = there.0;
      tracks_at = of_d.tracks.place;
      found = read-so;
      output = subst (λ (x : FileRecords). IsReadOfOutput d (source_again name d x).1) same of-output;
      taken = taken-of;
      light = (let light = all-light in let size = light.size in omega arith);
    }

  -- The file is read as a source.
  pub plain-read : IsReadPlain name d tracks
  plain-read = read-as read.records.0 read.records.1 read.records.2
