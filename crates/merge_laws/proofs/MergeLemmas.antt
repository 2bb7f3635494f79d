-- The outputs of a merge hold it.
use Rattle.std.proofs.Common.{◌≡◌, ◌≢◌, ◌≤◌, ℕ, false, List, [], ◌∷◌, length, map, Option, Some, Result, Ok, Err, IfOk, refl, sym, ap, ap₂, ◌∙◌}
use Rattle.std.specs.List.{All}
use Rattle.std.specs.Str.{IsUtf8}
use Rattle.std.proofs.lemmas.List.{length-map}
use Rattle.std.proofs.lemmas.List.Elements.{All-head, All-tail}
use Rattle.mkv_io.specs.declared.outside.TheConstants.{LONGEST_FILE}
use Rattle.mkv_outputs.specs.Drafts.{patched}
use Rattle.mkv_outputs.specs.Drafts.{outputs_of as outputs_of_drafts}
use Rattle.mkv_outputs.specs.Outputs.{Output, with_outputs}
use Rattle.tree_format.specs.Node.{Node}
use Rattle.file_format.specs.Info.{scale_of}
use Rattle.file_format.specs.FileBlocks.{file_events}
use Rattle.output_model.specs.Cluster.{clusters}
use Rattle.output_model.specs.Document.{Document, layout, opened}
use Rattle.output_model.specs.Sound.{IsSoundDocument}
use Rattle.output_laws.specs.Reading.{header_of_segment}
use Rattle.output_laws.proofs.LayoutLemmas.{layout-read}
use Rattle.output_laws.proofs.AreaLemmas.{length-area_of}
use Rattle.cues_seekhead.specs.Draft.{draft_of}
use Rattle.cues_seekhead.proofs.LayoutLemmas.{draft-layout}
use Rattle.merge_model.specs.Lanes.{lane_blocks}
use Rattle.output_laws.specs.Lanes.{lanes_read}
use Rattle.output_laws.specs.Places.{block_in_place}
use Rattle.output_laws.proofs.AgainLemmas.{lanes-again}
use Rattle.splitter.specs.Sections.{Part}
use Rattle.remux_plan.specs.Parts.{PlannedOutput, name_of}
use Rattle.remuxer.specs.Output.{drafts_of}
use Rattle.requests.specs.declared.merge.MergeWords.{MergeWords}
use Rattle.requests.specs.Sound.{IsSoundMerge}
use Rattle.requests.specs.Texts.{AreTexts}
use Rattle.mkv_args.specs.Words.{command}
use Rattle.mkv_args.specs.declared.command.Command.TheVariants.{Merge}
use Rattle.mkv_args.proofs.SoundLemmas.{command-sound}
use Rattle.mkv_args.proofs.TextLemmas.{asked-texts}
use Rattle.merge_plan.specs.Plan.{Source, lanes_given, lanes_taken, limits_of}
use Rattle.mkv_merge.specs.Merge.{merge_verdict, outputs_of, sources_of, verdict_of}
use Rattle.mkv_merge.specs.Read.{is_split}
use Rattle.mkv_merge.specs.Records.{CanBeReadAgain, HaveRecords, IsFilled}
use Rattle.mkv_merge.specs.declared.refusal.Refusal.{Refusal}
use Rattle.mkv_lines.specs.Seen.{Seen}
use Rattle.mkv_lines.specs.Verdict.{IsDone}
use Rattle.mkv_lines.specs.declared.status.Status.{Status}
use Rattle.mkv_lines.specs.declared.status.Status.TheVariants as status
use Rattle.merge_laws.specs.Merge.{HoldsLanes, HoldsOutput, IsMerged, laid_out, lanes_selected}
use Rattle.merge_laws.specs.Sources.{AreSources, HoldsOctets}
use Rattle.merge_laws.proofs.DocumentLemmas.{document-ids, document-encodings, document-scale, document-sound, document_with}
use Rattle.merge_laws.proofs.ExactLemmas.{blocks-exact}
use Rattle.merge_laws.proofs.LaneLemmas.{lanes-as_many, lanes-free}
use Rattle.merge_laws.proofs.LoadLemmas.{loads-kept}
use Rattle.merge_laws.proofs.OutputLemmas.{IsPartOf, output_with, outputs-hold, outputs-parts}
use Rattle.merge_laws.proofs.SourceLemmas.{sources-read}

-- ---- lists of outputs

-- the contents of the draft of an output
abbrev Becomes : PlannedOutput → Type 0
Becomes o = patched (opened o.document) (draft_of o.name o.document).patches ≡ layout o.document

drafts-laid : (outputs : List PlannedOutput) → All Becomes outputs → outputs_of_drafts (drafts_of outputs) ≡ map laid_out outputs
drafts-laid [] become = refl
drafts-laid (o ∷ os) become =
    ap₂ (λ (content : List ℕ) (others : List Output). record { name = o.name; content = content } ∷ others) (All-head Becomes o os become) (drafts-laid os (All-tail Becomes o os become))

-- ---- written documents

module _ (words : MergeWords) (sources : List Source) (sound : IsSoundMerge words) (texts : AreTexts words) (are : AreSources words sources) (have : HaveRecords words sources) where
  module _ (number : ℕ) (files : List Node) (part : Part) (filled : All IsFilled files) (is : IsPartOf words sources part) where
    abbrev document : Document
    document = document_with words sources number files part

    sound-one : length (layout document) ≤ LONGEST_FILE → IsSoundDocument document
    sound-one = document-sound words sources sound texts are number files part have filled is.blocks

    holds-one : length (layout document) ≤ LONGEST_FILE → HoldsOutput words sources (output_with words sources number files part) (layout document)
    holds-one short =
        let good = sound-one short in
        record {
          document = layout-read document good;
          encodings = document-encodings words sources sound texts are;
          blocks = blocks-exact document (limits_of words) part.blocks good refl ∙ ap (λ (s : ℕ). map (block_in_place s 0) part.blocks) (document-scale words sources sound texts are number);
        }

    lanes-one : length (layout document) ≤ LONGEST_FILE → HoldsLanes words sources (output_with words sources number files part) (layout document)
    lanes-one short whole =
        let scale = document-scale words sources sound texts are number in
        let events = file_events false (layout document) (header_of_segment document) in
        let lanes = lanes_selected words sources in
        let as_many : length lanes ≡ length (lanes_given sources) = length-map (lanes_taken words sources) (lane_blocks words.scale) ∙ lanes-as_many words sources in
        ap (λ s. lanes_read s 1 (length (lanes_given sources)) events) (sym scale) ∙ ap (λ n. lanes_read (scale_of document.front.info) 1 n events) (sym as_many)
        ∙ lanes-again document (limits_of words) lanes (sound-one short) (ap (clusters (limits_of words)) (is.whole whole)) (lanes-free words sources are.each)

    becomes-one : Becomes (output_with words sources number files part)
    becomes-one = draft-layout (name_of (is_split words) words.output number) document (length-area_of document (document-ids words sources number files part have))

  -- The document of each output can be written.
  pub documents-sound : All (λ (o : PlannedOutput). length (layout o.document) ≤ LONGEST_FILE → IsSoundDocument o.document) (outputs_of words sources)
  documents-sound = outputs-hold words sources sound are (λ (o : PlannedOutput). length (layout o.document) ≤ LONGEST_FILE → IsSoundDocument o.document) have sound-one

  -- The written bytes hold the output.
  pub layouts-hold : All (λ (o : PlannedOutput). length (layout o.document) ≤ LONGEST_FILE → HoldsOutput words sources o (layout o.document)) (outputs_of words sources)
  layouts-hold = outputs-hold words sources sound are (λ (o : PlannedOutput). length (layout o.document) ≤ LONGEST_FILE → HoldsOutput words sources o (layout o.document)) have holds-one

  -- They hold all output tracks, if the merge isn't split.
  layouts-hold_lanes : All (λ (o : PlannedOutput). length (layout o.document) ≤ LONGEST_FILE → HoldsLanes words sources o (layout o.document)) (outputs_of words sources)
  layouts-hold_lanes = outputs-hold words sources sound are (λ (o : PlannedOutput). length (layout o.document) ≤ LONGEST_FILE → HoldsLanes words sources o (layout o.document)) have lanes-one

  drafts-become : outputs_of_drafts (drafts_of (outputs_of words sources)) ≡ map laid_out (outputs_of words sources)
  drafts-become = drafts-laid (outputs_of words sources) (outputs-hold words sources sound are Becomes have becomes-one)

-- ---- a result that was reached

-- A command that ends with the result of a merge of valid records, and wasn't refused, has written the merge.
pub verdict-merged : (world : List ℕ → Option (List ℕ)) (words : MergeWords) (old new : Seen) (s : Status) → old.names ≡ Some world → HoldsOctets world → IsSoundMerge words → AreTexts words
    → IfOk (sources_of world words) (CanBeReadAgain words) → s ≢ status.Refused → s ≡ (merge_verdict world words).status → IsDone old new (merge_verdict world words) → IsMerged world words new.names
verdict-merged world words old new s told holds sound texts found other = split (sources_of world words) refl found
  where
    split : (found : Result (List Source) Refusal) → sources_of world words ≡ found → IfOk found (CanBeReadAgain words) → s ≡ (verdict_of words found).status → IsDone old new (verdict_of words found) → IsMerged world words new.names
    split (Err why) is have same done = absurd (other same)
    split (Ok sources) is can same done =
        let have = can.records in
        let outputs : List PlannedOutput = outputs_of words sources in
        let are = sources-read words sources sound texts world holds is in
        record {
          sources = sources;
          taken = is;
          records = have;
          short = can.short;
          sound = λ k d below. documents-sound words sources sound texts are have k d below (can.short k d below);
          written = done.names ∙ ap (λ names. with_outputs names (outputs_of_drafts (drafts_of outputs))) told
              ∙ ap (with_outputs (Some world)) (drafts-become words sources sound texts are have);
          holds = λ k d below. layouts-hold words sources sound texts are have k d below (can.short k d below);
          lanes = λ k d below. layouts-hold_lanes words sources sound texts are have k d below (can.short k d below);
          parts = outputs-parts words sources;
          loads = loads-kept words sources sound;
        }

-- A run of this command line has written the merge, too.
pub run-merged : (old new : Seen) (words : List (List ℕ)) (asked : MergeWords) (world : List ℕ → Option (List ℕ)) (s : Status) → All IsUtf8 words → old.names ≡ Some world → HoldsOctets world → command words ≡ Ok (Merge asked)
    → IfOk (sources_of world asked) (CanBeReadAgain asked) → s ≢ status.Refused → s ≡ (merge_verdict world asked).status → IsDone old new (merge_verdict world asked) → IsMerged world asked new.names
run-merged old new words asked world s utf8 told holds is = verdict-merged world asked old new s told holds (command-sound words (Merge asked) is) (asked-texts words asked utf8 is)
