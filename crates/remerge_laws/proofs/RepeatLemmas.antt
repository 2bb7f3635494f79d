-- An output that is merged by itself is written as it was.
use Rattle.std.proofs.Common.{◌≡◌, ◌<◌, ◌≤◌, ℕ, ◌+◌, ◌^◌, true, false, List, [], ◌∷◌, ◌++◌, length, map, flat_map, take, All, Option, None, Ok, IfSome, option_map, refl, sym, ap, ap₂, subst, ◌∙◌, append-nil, arith}
use Rattle.std.specs.List.{AllZip}
use Rattle.std.proofs.lemmas.List.{length-map, map-append}
use Rattle.mkv_outputs.specs.Outputs.{Output}
use Rattle.mkv_schema.specs.declared.ids.TheConstants.{CONTENT_ENCODINGS, TRACKS}
use Rattle.tree_format.specs.Text.{HasNoZero}
use Rattle.tree_format.specs.Values.{first_child}
use Rattle.output_model.specs.Sound.{IsSoundDocument}
use Rattle.output_laws.specs.Lanes.{HasNoLane}
use Rattle.merge_inputs.specs.Taken.{IsTaken, first_unusable}
use Rattle.mkv_merge.specs.Records.{HaveRecords}
use Rattle.remerge_laws.specs.Records.{OutputKeepsLimits}
use Rattle.tree_format.specs.Node.{Node, nodes_of, IsMaster}
use Rattle.tree_format.specs.NormalForm.{is_filler, kept_octets, octets, octets_all}
use Rattle.file_format.specs.Entry.{default_duration_of, entries_of, type_of, uid_of}
use Rattle.file_format.specs.Info.{scale_of}
use Rattle.block_format.specs.Elements.{with_limits}
use Rattle.block_format.specs.Events.{events_of}
use Rattle.output_model.specs.declared.rule.CueRule.{CueRule}
use Rattle.output_model.specs.declared.places.CuePoint.{CuePoint}
use Rattle.output_model.specs.declared.TheConstants.{AREA, MAX_CUES}
use Rattle.output_model.specs.Cluster.{OutputCluster, clusters}
use Rattle.output_model.specs.Cued.{is_cue}
use Rattle.output_model.specs.Cues.{points_from}
use Rattle.output_model.specs.declared.durations.Durations.{Durations}
use Rattle.output_model.specs.Duration.{durations_of, end_of_blocks}
use Rattle.output_model.specs.OutputBlock.{OutputBlock}
use Rattle.output_model.specs.Document.{Document, front_elements, info_told, lasting_if, layout}
use Rattle.output_model.specs.Element.{joined}
use Rattle.output_model.specs.declared.attachment.Attachment.{Attachment}
use Rattle.output_laws.specs.Merges.{LanesAreReadAgain}
use Rattle.output_laws.specs.Reading.{header_of_segment}
use Rattle.output_laws.proofs.InfoLemmas.{told-id, told-scale}
use Rattle.meta_records.specs.Attached.{AttachedFile}
use Rattle.meta_records.specs.Records.{FileRecords, file_records}
use Rattle.record_changes.specs.Identifiers.{renumbered}
use Rattle.record_laws.specs.Again.{TracksStay}
use Rattle.record_laws.specs.Chapters.{ChaptersStay}
use Rattle.record_laws.specs.Tags.{TagsStay}
use Rattle.merge_model.specs.Lanes.{lane_blocks}
use Rattle.merge_model.specs.Merged.{merged}
use Rattle.output_records.specs.Attachments.{file_numbers}
use Rattle.output_records.specs.Attachments.{file_uids as uids_in_files, files_of}
use Rattle.output_records.specs.Tracks.{output_tracks}
use Rattle.output_records.proofs.OutputLemmas.{info-scale}
use Rattle.requests.specs.declared.merge.MergeWords.{MergeWords}
use Rattle.merge_inputs.specs.Input.{Clusters, InputRead}
use Rattle.merge_inputs.specs.declared.taken.TakenTrack.{TakenTrack}
use Rattle.merge_plan.specs.Front.{attachments_of, file_uids, reads_of}
use Rattle.merge_plan.specs.Identifiers.{Have64Bits, identifiers_of}
use Rattle.merge_plan.specs.Plan.{Source, lanes_given, lanes_taken, limits_of, rule_of, rules_given, default_rule}
use Rattle.merge_plan.specs.Records.{LaneUids, anywhere, chapters_of, info_of, kept_anywhere, lane_uids, owner_at, records_from, records_of, tags_of, title_of, tracks_of_output, tracks_ordered, uids_of}
use Rattle.merge_plan.specs.Records.{entries_of as entries_given}
use Rattle.merge_plan.specs.Refusal.{plan_refusal}
use Rattle.mkv_merge.specs.Merge.{blocks_of}
use Rattle.merge_laws.specs.Merge.{laid_out}
use Rattle.merge_laws.specs.Sources.{is_taken_type}
use Rattle.remerge_laws.specs.Again.{HasIdentifiersOf}
use Rattle.remerge_laws.specs.AgainChapters.{HasChaptersOf}
use Rattle.remerge_laws.specs.AgainFiles.{HaveFiles}
use Rattle.remerge_laws.specs.AgainLanes.{IsReadOfOutput}
use Rattle.remerge_laws.specs.AgainTracks.{ArePlainTracks, AreTakenOf}
use Rattle.remerge_laws.specs.Alike.{AreAlike, AreAlikeDocuments, MayBeAlike}
use Rattle.remerge_laws.specs.AsRead.{EndsAfterStart, as_read}
use Rattle.remerge_laws.specs.Plain.{merge_again}
use Rattle.remerge_laws.specs.Records.{IsReadWithLimits, RecordsOfOutput}
use Rattle.remerge_laws.specs.Repeat.{IsRepeated, IsDefault, source_again}
use Rattle.remerge_laws.specs.Tracks.{IsTrackOf}
use Rattle.remerge_laws.specs.Whole.{whole_document}
use Rattle.remerge_laws.proofs.AgainChapterLemmas.{chapters-again}
use Rattle.remerge_laws.proofs.AgainDurationLemmas.{durations-again}
use Rattle.remerge_laws.proofs.AgainFileLemmas.{files-stay}
use Rattle.remerge_laws.proofs.AgainInfoLemmas.{info-again}
use Rattle.merge_laws.proofs.LaneLemmas.{lanes-as_many}
use Rattle.merge_laws.proofs.TakenLemmas.{lanes-same}
use Rattle.remerge_laws.proofs.AgainLaneLemmas.{lanes-merged}
use Rattle.remerge_laws.proofs.AgainPlanLemmas.{IsTree, again-small, plan-again, tracks-tree, usable-again}
use Rattle.remerge_laws.proofs.AgainTagLemmas.{tags-again}
use Rattle.remerge_laws.proofs.AgainTrackLemmas.{IsBare, entries-again, tracks-taken}
use Rattle.remerge_laws.proofs.AlikeLemmas.{alike-one, fronts-same}
use Rattle.remerge_laws.proofs.AsReadLemmas.{fronts-told, layout-told}
use Rattle.remerge_laws.proofs.BlockLemmas.{own-scale}
use Rattle.remerge_laws.proofs.RecordLemmas.{outputs-read}
use Rattle.remerge_laws.proofs.RepeatTrackLemmas.{entries-are, rules-given, types-from, uids-given}
use Rattle.remerge_laws.proofs.WholeLemmas.{one-document}

-- ---- premises

-- the facts about the sources
pub record ArePlain (words : MergeWords) (sources : List Source) : Type 0 where
  pub taken : All IsTaken (tracks_ordered words.order (reads_of sources))
  pub types : All (λ (t : TakenTrack). is_taken_type t.track.kind ≡ true) (tracks_ordered words.order (reads_of sources))
  pub cues : All (λ (t : TakenTrack). t.cues ≡ None) (tracks_ordered words.order (reads_of sources))
  pub undone : All (λ (t : TakenTrack). t.track.stored ≡ false) (tracks_ordered words.order (reads_of sources))
  pub title : HasNoZero (title_of words (reads_of sources))
  pub short : Have64Bits (identifiers_of words.order (reads_of sources))
  pub records : HaveRecords words sources
  pub unrefused : plan_refusal words (reads_of sources) ≡ None

-- the facts about their document
pub record HavePlainDocument (words : MergeWords) (sources : List Source) : Type 0 where
  pub later : EndsAfterStart (whole_document words sources)
  pub sound : IsSoundDocument (as_read (whole_document words sources))
  pub lanes : length (lanes_given sources) ≡ length (entries_of (whole_document words sources).front.tracks)
  pub unnumbered : All (All HasNoLane) (map (lane_blocks words.scale) (lanes_taken words sources))
  pub plain : All (λ (entry : Node). first_child CONTENT_ENCODINGS entry ≡ None) (entries_of (whole_document words sources).front.tracks)
  pub limits : OutputKeepsLimits (as_read (whole_document words sources))

-- ---- lists of bytes

same-joined : (ms ns : List Node) → map octets ms ≡ map octets ns → octets_all (nodes_of ms) ≡ octets_all (nodes_of ns)
same-joined [] [] same = refl
same-joined [] (n ∷ ns) same = absurd (cc)
same-joined (m ∷ ms) [] same = absurd (cc)
same-joined (m ∷ ms) (n ∷ ns) same =
    let first : octets m ≡ octets n = cc in
    let rest : map octets ms ≡ map octets ns = cc in
    ap₂ (λ (a b : List ℕ). a ++ b) first (same-joined ms ns rest)

-- ---- FileUIDs

uids-anywhere : (files : List AttachedFile) → uids_in_files (map anywhere files) ≡ map (λ (a : AttachedFile). a.uid) files
uids-anywhere [] = refl
uids-anywhere (a ∷ files) = ap (λ (us : List ℕ). a.uid ∷ us) (uids-anywhere files)

uids-from : (lanes : LaneUids) (before number : ℕ) (reads : List InputRead)
    → uids_in_files (files_of (records_from lanes before number (map kept_anywhere reads))) ≡ map (λ (a : AttachedFile). a.uid) (flat_map (λ (i : InputRead). i.attachments) reads)
uids-from lanes before number [] = refl
uids-from lanes before number (i ∷ reads) =
    let owner : ℕ = owner_at before number i in
    let rest : List Attachment = files_of (records_from lanes owner (number + 1) (map kept_anywhere reads)) in
    map-append (λ (a : Attachment). a.uid) (map anywhere i.attachments) rest
    ∙ ap₂ (λ (x y : List ℕ). x ++ y) (uids-anywhere i.attachments) (uids-from lanes owner (number + 1) reads)
    ∙ sym (map-append (λ (a : AttachedFile). a.uid) i.attachments (flat_map (λ (j : InputRead). j.attachments) reads))

files-numbers : (order : List (ℕ × ℕ)) (reads : List InputRead) → file_uids reads ≡ file_numbers (records_of order reads)
files-numbers order reads = ap renumbered (sym (uids-from (lane_uids order reads) 0 0 reads))

-- ---- result of reading

module _ (tracks_stay : TracksStay) (chapters_stay : ChaptersStay) (tags_stay : TagsStay) (lanes_stay : LanesAreReadAgain) (words : MergeWords) (sources : List Source) (out name : List ℕ) (usual : IsDefault words) (are : ArePlain words sources) (has : HavePlainDocument words sources) where
  abbrev w : Document
  w = whole_document words sources

  -- as a reader finds it
  abbrev d : Document
  d = as_read w

  abbrev reads : List InputRead
  reads = reads_of sources

  abbrev taken : List TakenTrack
  taken = tracks_ordered words.order reads

  read : IsReadWithLimits d
  read = outputs-read d has.sound has.limits

  same-entries : entries_of d.front.tracks ≡ entries_given taken
  same-entries = entries-are taken are.taken

  plain-tracks : ArePlainTracks d.front.tracks
  plain-tracks = record {
    numbers = has.sound.tracks.numbers;
    types = subst (All (λ (entry : Node). is_taken_type (type_of entry) ≡ true)) (sym same-entries) (types-from 1 (uids_of taken) taken are.taken are.types);
    plain = has.plain;
  }

  scale-is : scale_of d.front.info ≡ words.scale
  scale-is = told-scale w.front.info w.front.lasting ∙ info-scale words.scale (title_of words reads) (subst (λ (n : ℕ). n < 2 ^ 64) (sym usual.scale) (omega arith))

  files : HaveFiles sources
  files = record { filled = are.records.attachments; small = subst (All (λ n. n < 2 ^ 64)) (sym (files-numbers words.order reads)) are.short.files }

  -- ---- the second merge

  module _ (r : FileRecords) (of_d : RecordsOfOutput d r) where
    abbrev s : Source
    s = source_again name d r

    taken-of : AreTakenOf d.front.tracks s.1.taken
    taken-of = tracks-taken name d.front.tracks r.tracks plain-tracks of_d.tracks

    output-read : IsReadOfOutput d s.1
    output-read = record {
      blocks = ap (Clusters (header_of_segment d)) of_d.scale;
      events = ap (λ (n : ℕ). events_of (with_limits n) (layout d) (header_of_segment d)) (of_d.scale ∙ sym (own-scale d has.sound has.limits.records.lasting has.limits.records.info)) ∙ read.events;
      alone = refl;
      times = refl;
      numbers = taken-of.numbers;
      plain = taken-of.plain;
    }

    chapters-of : HasChaptersOf words.order reads s.1
    chapters-of = record { short = are.short; records = are.records.chapters; stand = of_d.chapters; alone = refl }

    identifiers : HasIdentifiersOf words.order reads s.1
    identifiers = record {
      tracks = taken-of.uids ∙ ap (map uid_of) same-entries ∙ uids-given taken are.taken are.short.tracks;
      editions = (chapters-again chapters_stay).editions words.order reads s.1 chapters-of;
      chapters = (chapters-again chapters_stay).chapters words.order reads s.1 chapters-of;
      files = files-stay.read sources s files of_d.attachments ∙ files-numbers words.order reads;
      alone = refl;
      keep = refl;
    }

    lanes-again : map (lane_blocks 1000000) (lanes_taken (merge_again words.duration out name) (s ∷ [])) ≡ map (lane_blocks words.scale) (lanes_taken words sources)
    lanes-again =
        ap (map (lane_blocks 1000000)) (lanes-same (lanes_given (s ∷ [])))
        ∙ ap (λ (n : ℕ). map (lane_blocks n) (lanes_given (s ∷ []))) (sym (scale-is ∙ usual.scale))
        ∙ (lanes-merged lanes_stay).lanes d (limits_of words) (map (lane_blocks words.scale) (lanes_taken words sources)) s.1 has.sound refl has.unnumbered
        (taken-of.many ∙ sym has.lanes ∙ sym (length-map (lanes_taken words sources) (lane_blocks words.scale) ∙ lanes-as_many words sources)) output-read

    blocks-again : blocks_of (merge_again words.duration out name) (s ∷ []) ≡ blocks_of words sources
    blocks-again = ap merged lanes-again

    limits-same : limits_of (merge_again words.duration out name) ≡ limits_of words
    limits-same = sym
        (ap (λ (n : ℕ). limits_of (record words { blocks = n })) usual.blocks ∙ ap (λ (n : ℕ). limits_of (record words { blocks = 65535; span = n })) usual.span
        ∙ ap (λ (n : ℕ). limits_of (record words { blocks = 65535; span = 5000000000; scale = n })) usual.scale)

    clusters-same : clusters (limits_of words) (blocks_of words sources) ≡ clusters (limits_of (merge_again words.duration out name)) (blocks_of (merge_again words.duration out name) (s ∷ []))
    clusters-same = sym (ap₂ clusters limits-same blocks-again)

    rules-same : rules_given words.order reads ≡ rules_given [] (s.1 ∷ [])
    rules-same =
        sym (rules-given taken are.taken are.cues) ∙ ap (map (λ (entry : Node). default_rule (type_of entry))) (sym same-entries) ∙ sym taken-of.rules
        ∙ ap (map rule_of) (sym (append-nil s.1.taken))

    -- ---- the records

    info-same : info_of (merge_again words.duration out name) (s.1 ∷ []) ≡ info_of words reads
    info-same = info-again words reads w.front.lasting out name r.info s.1 usual.scale are.title of_d.info refl

    durations-same : durations_of 1000000 (tracks_of_output [] (s.1 ∷ [])) ≡ durations_of words.scale (tracks_of_output words.order reads)
    durations-same =
        let few = has.sound.tracks.few in
        let many = taken-of.many in
        ap₂ (λ (scale : ℕ) (frames : List (Option ℕ)). let ds : Durations = record { scale = scale; frames = frames } in ds) (sym usual.scale)
        (ap (λ (ts : List TakenTrack). map default_duration_of (entries_of (output_tracks (entries_given ts)))) (append-nil s.1.taken)
        ∙ durations-again name d.front.tracks r.tracks has.sound.tracks.is plain-tracks of_d.tracks (omega arith) (again-small words reads s.1 are.short identifiers))

    -- Both outputs end at the same tick.
    lasting-same : (whole_document (merge_again words.duration out name) (s ∷ [])).front.lasting ≡ w.front.lasting
    lasting-same = ap₂ (λ (ds : Durations) (bs : List OutputBlock). option_map (λ known. end_of_blocks ds bs) (lasting_if words.duration)) durations-same blocks-again

    told-same : info_told w.front.info w.front.lasting ≡ info_told (info_of (merge_again words.duration out name) (s.1 ∷ [])) (whole_document (merge_again words.duration out name) (s ∷ [])).front.lasting
    told-same = sym (ap₂ info_told info-same lasting-same)

    info-alike : AreAlike d.front.info (info_told (info_of (merge_again words.duration out name) (s.1 ∷ [])) (whole_document (merge_again words.duration out name) (s ∷ [])).front.lasting)
    info-alike = subst (AreAlike d.front.info) told-same (record { id = refl; some = ap is_filler (told-id w.front.info w.front.lasting); same = refl })

    entries-alike : map octets (entries_given (s.1.taken ++ [])) ≡ map octets (entries_given taken)
    entries-alike =
        ap (λ (ts : List TakenTrack). map octets (entries_given ts)) (append-nil s.1.taken)
        ∙ entries-again tracks_stay name taken r.tracks are.taken are.undone are.short.tracks plain-tracks of_d.tracks

    tracks-alike : AreAlike d.front.tracks (tracks_of_output [] (s.1 ∷ []))
    tracks-alike = record { id = refl; some = refl; same = ap (kept_octets TRACKS) (sym (same-joined (entries_given (s.1.taken ++ [])) (entries_given taken) entries-alike)) }

    chapters-alike : MayBeAlike d.chapters (chapters_of (s.1 ∷ []))
    chapters-alike = (chapters-again chapters_stay).alike words.order reads s.1 chapters-of

    tags-alike : MayBeAlike d.tags (tags_of [] (s.1 ∷ []))
    tags-alike = tags-again tags_stay words.order reads s.1 are.short identifiers of_d.tags

    files-alike : AllZip AreAlike d.front.attachments (attachments_of (s ∷ []))
    files-alike = files-stay.alike sources s files of_d.attachments

    -- ---- the document

    abbrev e : Document
    e = whole_document (merge_again words.duration out name) (s ∷ [])

    abbrev points : List CueRule → ℕ → List OutputCluster → List CuePoint
    points rules place cs = take MAX_CUES (points_from (is_cue rules) place cs)

    master-again : IsMaster (info_told e.front.info e.front.lasting)
    master-again = subst IsMaster told-same has.sound.info.master

    later-again : EndsAfterStart e
    later-again = subst (λ (lasting : Option ℕ). IfSome lasting (λ end. 1 ≤ end)) (sym lasting-same) has.later

    fronts-alike : joined (front_elements w.front) ≡ joined (front_elements e.front)
    fronts-alike =
        sym (fronts-told w has.sound.info.master has.later) ∙ fronts-same d.front (as_read e).front refl refl info-alike tracks-alike files-alike
        ∙ fronts-told e master-again later-again

    cues-same : d.cues ≡ e.cues
    cues-same =
        ap (λ (rules : List CueRule). points rules (AREA + length (joined (front_elements w.front))) d.clusters) rules-same
        ∙ ap₂ (λ (octets : List ℕ) (cs : List OutputCluster). points (rules_given [] (s.1 ∷ [])) (AREA + length octets) cs)
        fronts-alike clusters-same

    documents-alike : AreAlikeDocuments d (as_read e)
    documents-alike = record {
      webm = usual.webm;
      lasting = refl;
      lasting_too = refl;
      info = info-alike;
      tracks = tracks-alike;
      attachments = files-alike;
      clusters = clusters-same;
      cues = cues-same;
      chapters = chapters-alike;
      tags = tags-alike;
    }

    -- ---- possible refusals

    usable : first_unusable s.1.taken ≡ None
    usable =
        usable-again name taken r.tracks are.taken (subst (All IsBare) same-entries has.plain)
        (subst (λ (es : List Node). AllZip IsTrackOf es r.tracks) same-entries of_d.tracks.say)

    tracks-stand : IsTree TRACKS (tracks_of_output [] (s.1 ∷ []))
    tracks-stand =
        let few = has.sound.tracks.few in
        let many = taken-of.many in
        subst (λ (ts : List TakenTrack). IsTree TRACKS (output_tracks (entries_given ts))) (sym (append-nil s.1.taken))
        (tracks-tree name d.front.tracks r.tracks has.sound.tracks.is plain-tracks of_d.tracks (omega arith) (again-small words reads s.1 are.short identifiers))

    planned : plan_refusal (merge_again words.duration out name) (s.1 ∷ []) ≡ None
    planned =
        plan-again words reads s.1 are.short identifiers out name (record {
          tracks = has.sound.tracks.is;
          chapters = are.records.chapters;
          tags = are.records.tags;
          tree = tracks-stand;
          chapters_stand = of_d.chapters;
          tags_stand = of_d.tags;
          tracks_alike = tracks-alike;
          chapters_alike = chapters-alike;
          tags_alike = tags-alike;
        }) are.unrefused

    -- ---- together

    is-repeated : file_records (layout d) (header_of_segment d) ≡ Ok r → IsRepeated words.duration out name d r
    is-repeated found = record {
      outline = read.outline;
      read = found;
      usable = usable;
      planned = planned;
      outputs =
          ap (map laid_out) (one-document (merge_again words.duration out name) (s ∷ []) refl refl)
          ∙ ap (λ (bytes : List ℕ). let o : Output = record { name = out; content = bytes } in o ∷ []) (sym (alike-one d (as_read e) documents-alike ∙ layout-told e master-again later-again));
      undamaged = (lanes-merged lanes_stay).undamaged (merge_again words.duration out name) d s.1 output-read;
    }

  pub repeated : (r : FileRecords) × IsRepeated words.duration out name d r
  repeated = (read.records.0, is-repeated read.records.0 read.records.2 read.records.1)
