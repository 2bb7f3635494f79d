-- The split of the merged file isn't refused, and its parts hold their blocks.
use Rattle.std.specs.List.{All, enumerate_from}
use Rattle.std.specs.Option.{option_map}
use Rattle.std.specs.Result.{result_err}
use Rattle.std.proofs.Common.{◌≡◌, ℕ, zero, suc, ◌+◌, ◌^◌, ◌≤◌, ◌==◌, ◌||◌, Bool, true, false, if◌then◌else◌, List, [], ◌∷◌, ◌++◌, length, map, zip, None, Option, Result, Ok, refl, sym, ap, subst, ◌∙◌, arith, ap₂}
use Rattle.std.proofs.lemmas.List.Elements.{All-cons, All-head, All-nil, All-tail, All-weaker}
use Rattle.mkv_io.specs.Lists.{is_some_of}
use Rattle.mkv_io.specs.Results.{and_then, unless}
use Rattle.mkv_io.specs.declared.damage.Damage.{Damage}
use Rattle.requests.specs.declared.merge.MergeWords.{MergeWords}
use Rattle.ebml_numbers.specs.Number.{least_size_width, uint_width}
use Rattle.mkv_schema.specs.Schema.{entry_of}
use Rattle.mkv_schema.specs.Table.{table}
use Rattle.tree_format.specs.Node.{Node}
use Rattle.output_model.specs.Cued.{document_of}
use Rattle.output_model.specs.Document.{Document, layout}
use Rattle.output_model.specs.OutputBlock.{OutputBlock}
use Rattle.output_model.specs.Sound.{IsSoundBlock}
use Rattle.splitter.specs.Sections.{Part, Split, parts}
use Rattle.merge_model.specs.Lanes.{lane_blocks}
use Rattle.merge_model.specs.Links.{Given}
use Rattle.merge_model.specs.Merged.{merged}
use Rattle.remux_plan.specs.Parts.{PlannedOutput}
use Rattle.remux_plan.specs.Uuids.{uuid_at, with_uuids}
use Rattle.output_laws.specs.Lanes.{HasNoLane}
use Rattle.output_laws.proofs.MergedClusterLemmas.{IsOf, earlier-of, merged-of}
use Rattle.merge_inputs.specs.Input.{InputRead}
use Rattle.merge_inputs.specs.declared.input.InputRefusal.{InputRefusal}
use Rattle.merge_plan.specs.Appending.{append_refusal}
use Rattle.merge_plan.specs.Attached.{attached_sources}
use Rattle.merge_plan.specs.Front.{reads_of}
use Rattle.merge_plan.specs.Places.{in_place}
use Rattle.merge_plan.specs.Plan.{Source, lanes_given}
use Rattle.merge_plan.specs.Refusal.{plan_refusal}
use Rattle.merge_plan.specs.declared.refusal.PlanRefusal.{PlanRefusal}
use Rattle.mkv_merge.specs.Chapters.{chaptered, chapters_refusal, with_chapters}
use Rattle.mkv_merge.specs.Joined.{no_texts, sources_apart}
use Rattle.mkv_merge.specs.Merge.{attached_refusal, blocks_of, damages_met, damages_warned, document_at, has_damage, output_at, outputs_of, parts_of, split_of}
use Rattle.mkv_merge.specs.Read.{first_written, found_in, inputs_of, numbered}
use Rattle.mkv_merge.specs.Refused.{first_cause}
use Rattle.mkv_merge.specs.Texts.{timed_from, times_refusal}
use Rattle.mkv_merge.specs.declared.refusal.Refusal.{Refusal}
use Rattle.mkv_merge.specs.declared.refusal.Refusal.TheVariants.{Differs, OutputIsInput, Plan}
use Rattle.mkv_generate.specs.Files.{default_limits}
use Rattle.mkv_generate.specs.declared.blocks.MediaKind.TheVariants.{Pictures, Sounds}
use Rattle.mkv_generate.specs.declared.names.Names.{Names}
use Rattle.mkv_generate.specs.Blocks.{blocks_of as made_blocks}
use Rattle.mkv_generate.specs.Generate.{made_of, parts_words}
use Rattle.merge_laws.proofs.TakenLemmas.{lanes-same}
use Rattle.generate_laws.specs.Files.{HoldsBlocks}
use Rattle.generate_laws.specs.Generated.{HoldsItsBlocks, both_blocks, ten_seconds}
use Rattle.generate_laws.proofs.BlockLemmas.{IsGood, blocks-count, blocks-good, good-in_lane, good-in_output}
use Rattle.generate_laws.proofs.DamageLemmas.{HasNoDamage, none-damaged, output-undamaged}
use Rattle.generate_laws.proofs.DocumentLemmas.{document-holds, plain_document, plain_info}
use Rattle.generate_laws.proofs.LengthLemmas.{IsSmall}
use Rattle.generate_laws.proofs.LimitLemmas.{IsPlain}
use Rattle.generate_laws.proofs.MergedLemmas.{merged-all, merged-count}
use Rattle.generate_laws.proofs.MergeLemmas.{all-unplaced, both_document, both_rules, lanes-read, picture-read, sound-read, tracks_merged}
use Rattle.generate_laws.proofs.PartLemmas.{parts-each, parts-few}
use Rattle.generate_laws.proofs.SourceLemmas.{IsReadPlain, plain-read, source_at}
use Rattle.generate_laws.proofs.TracksLemmas.{both-lanes, parts-lanes, parts_tracks}

-- ---- the merged blocks

module _ (n : ℕ) (few : n ≤ 100000) where
  lanes-good : All (All IsGood) (made_blocks Pictures n ∷ made_blocks Sounds n ∷ [])
  lanes-good = All-cons (All IsGood) (made_blocks Pictures n) (made_blocks Sounds n ∷ []) (blocks-good Pictures n few) (All-cons (All IsGood) (made_blocks Sounds n) [] (blocks-good Sounds n few) (All-nil (All IsGood)))

  both-good : All IsGood (both_blocks n)
  both-good = merged-all IsGood (λ lane b is. good-in_lane lane b is) (made_blocks Pictures n ∷ made_blocks Sounds n ∷ []) lanes-good

  both-of : All (IsOf 2) (both_blocks n)
  both-of = merged-of (made_blocks Pictures n ∷ made_blocks Sounds n ∷ []) (All-weaker (All IsGood) (All IsSoundBlock) (λ bs good. All-weaker IsGood IsSoundBlock (λ b is. is.sound) bs good) (made_blocks Pictures n ∷ made_blocks Sounds n ∷ []) lanes-good)

  both-few : length (both_blocks n) ≤ 2 ^ 20
  both-few = omega (arith, merged-count (made_blocks Pictures n) (made_blocks Sounds n), blocks-count Pictures n, blocks-count Sounds n)

-- The part has valid small blocks on two output tracks.
record IsPart (p : Part) : Type 0 where
  are : All (IsOf 2) p.blocks
  good : All IsGood p.blocks
  most : length p.blocks ≤ 2 ^ 20

no-uuid : (number : ℕ) → uuid_at [] number ≡ None
no-uuid zero = refl
no-uuid (suc k) = refl

abbrev none_attached : List Node
none_attached = []

no-files : (t : Bool) → (if t then [] else []) ≡ none_attached
no-files true = refl
no-files false = refl

module _ (n : ℕ) (few : n ≤ 100000) (names : Names) where
  -- the places at which the Tracks of both files are read
  abbrev a : ℕ
  a = (picture-read n few names).tracks_at

  abbrev b : ℕ
  b = (sound-read n few names).tracks_at

  abbrev tracks : Node
  tracks = tracks_merged n few names

  abbrev document : Document
  document = both_document n few names

  -- The merged file is an output of small blocks, too.
  both-plain : IsPlain 2 tracks (both_blocks n)
  both-plain = record { has = both-lanes names.pictures names.sounds a b; are = both-of n few; good = both-good n few; few = both-few n few }

  pub both-holds : HoldsBlocks document (both_blocks n)
  both-holds = document-holds both_rules tracks 2 both-plain.has (both_blocks n) (both-of n few) (All-weaker IsGood IsSmall (λ x is. is.small) (both_blocks n) (both-good n few)) (both-few n few)

  -- ---- the source

  -- the merged file as it is read
  pub both-read : IsReadPlain names.both document tracks
  both-read = plain-read both_rules tracks 2 (both_blocks n) both-plain names.both

  abbrev pub source : Source
  source = source_at names.both document both-read.info_at both-read.tracks_at tracks

  abbrev pub part_sources : List Source
  part_sources = source ∷ []

  abbrev words : MergeWords
  words = parts_words names

  abbrev contents : List (List ℕ)
  contents = layout document ∷ []

  inputs-read : inputs_of words contents ≡ Ok (source.1 ∷ [])
  inputs-read = ap (λ (r : Result InputRead InputRefusal). and_then (numbered 0 r) (λ (read : InputRead). Ok (read ∷ []))) (both-read.found 0 (omega arith))

  planned : plan_refusal words (source.1 ∷ []) ≡ None
  unfolding uint_width least_size_width entry_of table
  planned = refl

  -- the sources for the input that was read; below, the first refusal
  abbrev sources_by : List InputRead → List Source
  sources_by reads = in_place (zip contents (timed_from [] 0 (chaptered with_chapters false no_texts.chapters reads))) ++ attached_sources false [] []

  abbrev found_by : Option (List ℕ) → Result (List InputRead) Refusal → Result (List Source) Refusal
  found_by written found =
      unless (first_cause (option_map OutputIsInput written ∷ result_err found ∷ chapters_refusal no_texts.chapters ∷ times_refusal [] ∷ attached_refusal []
      ∷ option_map Differs (append_refusal (timed_from [] 0 (chaptered with_chapters false no_texts.chapters (found_in found))))
      ∷ option_map Plan (plan_refusal words (reads_of (sources_by (found_in found)))) ∷ [])) (sources_by (found_in found))

  pub parts-sources : first_written words ≡ None → sources_apart words contents ≡ Ok part_sources
  parts-sources apart =
      ap (λ (o : Option (List ℕ)). found_by o (inputs_of words contents)) apart
      ∙ ap (λ (found : Result (List InputRead) Refusal). found_by None found) inputs-read
      ∙ ap (λ (why : Option PlanRefusal). unless (first_cause (option_map Plan why ∷ [])) part_sources) planned

  -- ---- no damage

  none-met : (k : ℕ) → damages_met words part_sources k ≡ []
  none-met k = none-damaged words part_sources k (All-cons HasNoDamage source [] (output-undamaged document source.1 both-read.output) (All-nil HasNoDamage))

  pub parts-undamaged : has_damage words part_sources ≡ false
  parts-undamaged = ap (λ (x : List Damage). is_some_of x || false) (none-met 0)

  pub parts-unwarned : (made_of words part_sources).warned ≡ []
  parts-unwarned = ap (λ (x : List Damage). damages_warned names.both x ++ []) (none-met 0)

  -- ---- its blocks, and the parts

  blocks-again : blocks_of words part_sources ≡ both_blocks n
  blocks-again =
      ap (λ (lanes : List (List Given)). merged (map (lane_blocks 1000000) lanes)) (lanes-same (lanes_given part_sources))
      ∙ ap merged (lanes-read both_rules tracks 2 (both_blocks n) both-plain names.both (made_blocks Pictures n ∷ made_blocks Sounds n ∷ []) refl
      (All-cons (All HasNoLane) (made_blocks Pictures n) (made_blocks Sounds n ∷ []) (all-unplaced Pictures _) (All-cons (All HasNoLane) (made_blocks Sounds n) [] (all-unplaced Sounds _) (All-nil (All HasNoLane)))) refl both-read)

  -- the Tracks of each part
  abbrev part_tracks : Node
  part_tracks = parts_tracks names.both names.pictures names.sounds a b both-read.tracks_at

  -- the document of a part with the identifier `own` and the attached files `files`
  abbrev with_front : Part → Option ℕ → List Node → Document
  with_front p own files =
      document_of default_limits both_rules (record { webm = false; lasting = None; info = with_uuids (record { own = own; before = None; next = None }) plain_info; tracks = part_tracks; attachments = files }) None None p.blocks

  -- Each part is such a document, too.
  part-document : (number : ℕ) (p : Part) → document_at words part_sources (number, p) ≡ plain_document both_rules part_tracks p.blocks
  unfolding uint_width least_size_width entry_of table with_uuids
  part-document number p =
      ap (λ (own : Option ℕ). with_front p own (if number == 1 then [] else [])) (no-uuid number) ∙ ap (with_front p None) (no-files (number == 1))

  parts-are : All IsPart (parts_of words part_sources)
  parts-are =
      let s : Split = split_of words part_sources in
      let bs : List OutputBlock = blocks_of words part_sources in
      let are = parts-each (IsOf 2) (λ tick x before is. earlier-of 2 tick x before is) s bs (subst (All (IsOf 2)) (sym blocks-again) (both-of n few)) in
      let good = parts-each IsGood (λ tick x before is. good-in_output x.lane tick x before is) s bs (subst (All IsGood) (sym blocks-again) (both-good n few)) in
      let most = parts-few s bs in
      let all : length bs ≤ 2 ^ 20 = subst (λ (l : List OutputBlock). length l ≤ 2 ^ 20) (sym blocks-again) (both-few n few) in
      λ k d inside. record { are = are k d inside; good = good k d inside; most = (let one = most k d inside in omega arith) }

  part-holds : (number : ℕ) (p : Part) → IsPart p → HoldsBlocks (document_at words part_sources (number, p)) p.blocks
  part-holds number p is =
      subst (λ (x : Document). HoldsBlocks x p.blocks) (sym (part-document number p))
      (document-holds both_rules part_tracks 2 (parts-lanes names.both names.pictures names.sounds a b both-read.tracks_at) p.blocks is.are
      (All-weaker IsGood IsSmall (λ x one. one.small) p.blocks is.good) is.most)

  numbered-hold : (number : ℕ) (ps : List Part) → All IsPart ps → All HoldsItsBlocks (map (output_at words part_sources) (enumerate_from number ps))
  numbered-hold number [] are = All-nil HoldsItsBlocks
  numbered-hold number (p ∷ ps) are =
      All-cons HoldsItsBlocks (output_at words part_sources (number, p)) (map (output_at words part_sources) (enumerate_from (number + 1) ps))
      (part-holds number p (All-head IsPart p ps are)) (numbered-hold (number + 1) ps (All-tail IsPart p ps are))

  pub parts-hold : All HoldsItsBlocks (outputs_of words part_sources)
  parts-hold = numbered-hold 1 (parts_of words part_sources) parts-are

  -- Their blocks are the parts of the merged list.
  blocks-numbered : (number : ℕ) (ps : List Part) → map (λ (o : PlannedOutput). o.blocks) (map (output_at words part_sources) (enumerate_from number ps)) ≡ map (λ (p : Part). p.blocks) ps
  blocks-numbered number [] = refl
  blocks-numbered number (p ∷ ps) = ap (λ (more : List (List OutputBlock)). p.blocks ∷ more) (blocks-numbered (number + 1) ps)

  split-is : split_of words part_sources ≡ ten_seconds
  unfolding uint_width least_size_width entry_of table
  split-is = refl

  pub parts-cut : map (λ (o : PlannedOutput). o.blocks) (outputs_of words part_sources) ≡ map (λ (p : Part). p.blocks) (parts ten_seconds (both_blocks n))
  parts-cut =
      blocks-numbered 1 (parts_of words part_sources)
      ∙ ap₂ (λ (s : Split) (bs : List OutputBlock). map (λ (p : Part). p.blocks) (parts s bs)) split-is blocks-again
