-- The output of a merge of plain sources is repeated.
use Rattle.std.proofs.Common.{◌≡◌, ◌≤◌, ℕ, ◌==◌, Bool, false, if◌then◌else◌, List, [], ◌∷◌, length, All, None, refl, sym, ap, subst, ◌∙◌}
use Rattle.std.specs.List.{AllZip}
use Rattle.std.proofs.lemmas.List.Elements.{All-cons, All-head, All-nil, All-tail, All-weaker}
use Rattle.mkv_io.specs.declared.outside.TheConstants.{LONGEST_FILE}
use Rattle.mkv_schema.specs.declared.ids.TheConstants.{CONTENT_ENCODINGS}
use Rattle.tree_format.specs.Node.{Node, id_of, children}
use Rattle.tree_format.specs.Changes.{part}
use Rattle.record_laws.proofs.TrackLemmas.{find-filter, first_in}
use Rattle.merge_inputs.specs.declared.taken.TakenTrack.{TakenTrack}
use Rattle.tree_format.specs.Values.{first_child}
use Rattle.file_format.specs.Entry.{entries_of}
use Rattle.output_model.specs.Document.{Document, layout}
use Rattle.output_model.specs.OutputBlock.{OutputBlock}
use Rattle.output_model.specs.Sound.{IsSoundDocument}
use Rattle.output_laws.specs.Merges.{LanesAreReadAgain}
use Rattle.record_laws.specs.Again.{TracksStay}
use Rattle.record_laws.specs.Chapters.{ChaptersStay}
use Rattle.record_laws.specs.Tags.{TagsStay}
use Rattle.remux_plan.specs.Parts.{PlannedOutput}
use Rattle.requests.specs.declared.merge.MergeWords.{MergeWords}
use Rattle.requests.specs.Sound.{IsSoundMerge}
use Rattle.requests.specs.Texts.{AreTexts}
use Rattle.merge_inputs.specs.Taken.{IsTaken}
use Rattle.merge_plan.specs.Front.{reads_of}
use Rattle.merge_plan.specs.Plan.{Source}
use Rattle.merge_plan.specs.Records.{tracks_ordered, tracks_taken}
use Rattle.mkv_merge.specs.Merge.{outputs_of}
use Rattle.mkv_merge.specs.Records.{HaveRecords}
use Rattle.merge_laws.specs.Laws.{LayoutsHoldOutputs, MergedDocumentsAreSound}
use Rattle.merge_laws.specs.Merge.{HasEncodingsOf, HoldsOutput}
use Rattle.merge_laws.specs.Sources.{AreSources, IsReadSource, IsReadTrack}
use Rattle.merge_laws.proofs.DocumentLemmas.{all-tracks}
use Rattle.merge_laws.proofs.LaneLemmas.{lanes-free}
use Rattle.merge_plan.proofs.OrderedLemmas.{lanes-many, ordered-all}
use Rattle.merge_plan.proofs.RecordLemmas.{ordered-count}
use Rattle.merge_laws.proofs.TracksLemmas.{entries-count}
use Rattle.remerge_laws.specs.AsRead.{EndsAfterStart, as_read}
use Rattle.remerge_laws.specs.Limits.{IsWithinLimits}
use Rattle.remerge_laws.specs.Repeat.{IsDefault, OutputsAreRepeated}
use Rattle.remerge_laws.specs.Whole.{whole_document}
use Rattle.remerge_laws.proofs.AsReadLemmas.{as-read}
use Rattle.remerge_laws.proofs.LimitLemmas.{octets-keep}
use Rattle.remerge_laws.proofs.RepeatLemmas.{ArePlain, HavePlainDocument, repeated}
use Rattle.remerge_laws.proofs.RepeatTrackLemmas.{IsOfTakenType, entries-are}
use Rattle.remerge_laws.proofs.WholeLemmas.{one-document, whole-planned}

-- ---- selected tracks

all-taken : (order : List (ℕ × ℕ)) (sources : List Source) → All IsReadSource sources → All IsTaken (tracks_ordered order (reads_of sources))
all-taken order sources each = All-weaker IsReadTrack IsTaken (λ t read. read.taken) (tracks_ordered order (reads_of sources)) (all-tracks order sources each)

-- Without tracks that are taken as they are stored, no entry has ContentEncodings.
none-kept : (taken : List TakenTrack) (es : List Node) → All (λ (t : TakenTrack). t.track.stored ≡ false) taken → AllZip HasEncodingsOf taken es → All (λ (entry : Node). first_child CONTENT_ENCODINGS entry ≡ None) es
none-kept [] [] undone are = All-nil (λ (entry : Node). first_child CONTENT_ENCODINGS entry ≡ None)
none-kept [] (e ∷ es) undone are = absurd are
none-kept (t ∷ taken) [] undone are = absurd are
none-kept (t ∷ taken) (e ∷ es) undone are =
    All-cons (λ (entry : Node). first_child CONTENT_ENCODINGS entry ≡ None) e es
    (find-filter (λ n. id_of n == CONTENT_ENCODINGS) (children e)
    ∙ ap first_in (are.0 ∙ ap (λ (stored : Bool). if stored then part CONTENT_ENCODINGS (children t.track.entry) else []) (All-head (λ (k : TakenTrack). k.track.stored ≡ false) t taken undone)))
    (none-kept taken es (All-tail (λ (k : TakenTrack). k.track.stored ≡ false) t taken undone) are.1)

-- ---- together

module _ (documents_sound : MergedDocumentsAreSound) (layouts_hold : LayoutsHoldOutputs) (words : MergeWords) (sources : List Source) (usual : IsDefault words) (good : IsSoundMerge words) (texts : AreTexts words) (are : AreSources words sources) (records : HaveRecords words sources) (later : EndsAfterStart (whole_document words sources)) (within : IsWithinLimits (layout (whole_document words sources))) (undone : All (λ (t : TakenTrack). t.track.stored ≡ false) (tracks_taken (reads_of sources))) where
  abbrev d : Document
  d = whole_document words sources

  -- A fact about each output holds for the one output.
  one-of-all : (P : PlannedOutput → Type 0) → All P (outputs_of words sources) → (name : List ℕ) × (blocks : List OutputBlock) × P (record { name = name; blocks = blocks; document = d })
  one-of-all P all =
      let is = one-document words sources usual.split usual.uuids in
      (_, _, All-head P _ [] (subst (All P) is all))

  document-sound : IsSoundDocument d
  document-sound =
      (one-of-all (λ (o : PlannedOutput). length (layout o.document) ≤ LONGEST_FILE → IsSoundDocument o.document) (documents_sound words sources good texts are records)).2 within.short

  holds : (o : PlannedOutput) × (o.document ≡ d) × HoldsOutput words sources o (layout d)
  holds =
      let found = one-of-all (λ (o : PlannedOutput). length (layout o.document) ≤ LONGEST_FILE → HoldsOutput words sources o (layout o.document)) (layouts_hold words sources good texts are records) in
      (record { name = found.0; blocks = found.1; document = d }, refl, found.2 within.short)

  taken : All IsTaken (tracks_ordered words.order (reads_of sources))
  taken = all-taken words.order sources are.each

  plain-document : HavePlainDocument words sources
  plain-document = record {
    later = later;
    sound = (as-read d document-sound later).sound;
    lanes = lanes-many sources
        ∙ sym (ap length (entries-are (tracks_ordered words.order (reads_of sources)) taken) ∙ entries-count (tracks_ordered words.order (reads_of sources)) ∙ ordered-count words.order (reads_of sources));
    unnumbered = lanes-free words sources are.each;
    plain = plain_one holds;
    limits =
        let written = as-read d document-sound later in
        octets-keep (as_read d) written.sound (whole-planned words sources are.unrefused) (subst IsWithinLimits (sym written.same) within);
  }
    where
      plain_one : (o : PlannedOutput) × (o.document ≡ d) × HoldsOutput words sources o (layout d) → All (λ (entry : Node). first_child CONTENT_ENCODINGS entry ≡ None) (entries_of d.front.tracks)
      plain_one found =
          subst (λ (e : Document). All (λ (entry : Node). first_child CONTENT_ENCODINGS entry ≡ None) (entries_of e.front.tracks)) found.1
          (none-kept (tracks_ordered words.order (reads_of sources)) (entries_of found.0.document.front.tracks)
          (ordered-all (λ (t : TakenTrack). t.track.stored ≡ false) words.order (reads_of sources) (tracks_taken (reads_of sources)) undone) found.2.encodings)

pub outputs-repeated : TracksStay → ChaptersStay → TagsStay → LanesAreReadAgain → MergedDocumentsAreSound → LayoutsHoldOutputs → OutputsAreRepeated
outputs-repeated tracks_stay chapters_stay tags_stay lanes_stay documents_sound layouts_hold words sources out name usual good texts are records plain later within =
    let known : ArePlain words sources = record {
      taken = all-taken words.order sources are.each;
      types = All-weaker IsReadTrack IsOfTakenType (λ t read. read.kind) (tracks_ordered words.order (reads_of sources)) (all-tracks words.order sources are.each);
      cues = ordered-all (λ (t : TakenTrack). t.cues ≡ None) words.order (reads_of sources) (tracks_taken (reads_of sources)) plain.cues;
      undone = ordered-all (λ (t : TakenTrack). t.track.stored ≡ false) words.order (reads_of sources) (tracks_taken (reads_of sources)) plain.undone;
      title = plain.title;
      short = records.numbers;
      records = records;
      unrefused = are.unrefused;
    } in
    repeated tracks_stay chapters_stay tags_stay lanes_stay words sources out name usual known
    (plain-document documents_sound layouts_hold words sources usual good texts are records later within plain.undone)
