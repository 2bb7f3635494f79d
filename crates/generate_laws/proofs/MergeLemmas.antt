-- The merge of both files isn't refused, and has one output without a warning.
use Rattle.std.specs.List.{All}
use Rattle.std.specs.Option.{option_map}
use Rattle.std.specs.Result.{result_err}
use Rattle.std.proofs.Common.{◌≡◌, ℕ, ◌≤◌, ◌||◌, Bool, true, false, if◌then◌else◌, List, [], ◌∷◌, ◌++◌, append-nil, length, map, zip, None, Option, Result, Ok, refl, sym, ap, ap₂, ◌∙◌, arith}
use Rattle.std.proofs.lemmas.List.{map-append}
use Rattle.std.proofs.lemmas.List.Elements.{All-cons, All-nil}
use Rattle.mkv_io.specs.Faults.{counted}
use Rattle.mkv_io.specs.Lists.{is_some_of}
use Rattle.mkv_io.specs.Results.{and_then, unless}
use Rattle.mkv_io.specs.declared.damage.Damage.{Damage}
use Rattle.requests.specs.declared.merge.MergeWords.{MergeWords}
use Rattle.requests.specs.Plain.{plain_file}
use Rattle.ebml_numbers.specs.Number.{least_size_width, uint_width}
use Rattle.mkv_schema.specs.Schema.{entry_of}
use Rattle.mkv_schema.specs.Table.{table}
use Rattle.tree_format.specs.Node.{Node}
use Rattle.output_model.specs.declared.rule.CueRule.{CueRule}
use Rattle.output_model.specs.declared.rule.CueRule.TheVariants.{Key, Never}
use Rattle.output_model.specs.Cluster.{clusters}
use Rattle.output_model.specs.Document.{Document, layout}
use Rattle.output_model.specs.OutputBlock.{OutputBlock}
use Rattle.output_records.proofs.OutputLemmas.{info-scale}
use Rattle.merge_model.specs.Lanes.{lane_blocks}
use Rattle.merge_model.specs.Links.{Given}
use Rattle.merge_model.specs.Merged.{merged}
use Rattle.remux_plan.specs.Parts.{PlannedOutput}
use Rattle.output_laws.specs.Lanes.{HasNoLane}
use Rattle.output_laws.proofs.AgainLemmas.{lanes-again}
use Rattle.merge_inputs.specs.Input.{InputRead}
use Rattle.merge_inputs.specs.declared.input.InputRefusal.{InputRefusal}
use Rattle.merge_plan.specs.Appending.{append_refusal}
use Rattle.merge_plan.specs.Attached.{attached_sources}
use Rattle.merge_plan.specs.Chains.{columns_from}
use Rattle.merge_plan.specs.Front.{reads_of}
use Rattle.merge_plan.specs.Places.{in_place}
use Rattle.merge_plan.specs.Plan.{Source, given_of, lanes_given}
use Rattle.merge_plan.specs.Refusal.{plan_refusal}
use Rattle.merge_plan.specs.declared.refusal.PlanRefusal.{PlanRefusal}
use Rattle.mkv_merge.specs.Chapters.{chaptered, chapters_refusal, with_chapters}
use Rattle.mkv_merge.specs.Joined.{no_texts, sources_apart}
use Rattle.mkv_merge.specs.Merge.{attached_refusal, blocks_of, damages_met, damages_warned, has_damage, outputs_of}
use Rattle.mkv_merge.specs.Read.{first_written, found_in, inputs_from, inputs_of, numbered}
use Rattle.mkv_merge.specs.Refused.{first_cause}
use Rattle.mkv_merge.specs.Texts.{timed_from, times_refusal}
use Rattle.mkv_merge.specs.declared.refusal.Refusal.{Refusal}
use Rattle.mkv_merge.specs.declared.refusal.Refusal.TheVariants.{Differs, OutputIsInput, Plan}
use Rattle.mkv_generate.specs.declared.blocks.MediaKind.{MediaKind}
use Rattle.mkv_generate.specs.declared.blocks.MediaKind.TheVariants.{Pictures, Sounds}
use Rattle.mkv_generate.specs.declared.names.Names.{Names}
use Rattle.mkv_generate.specs.Blocks.{block_of, blocks_of as made_blocks}
use Rattle.mkv_generate.specs.Files.{default_limits, file_of, lane_blocks as made_lane, rule_of}
use Rattle.mkv_generate.specs.Generate.{both_words, made_of}
use Rattle.merge_laws.proofs.TakenLemmas.{lanes-same}
use Rattle.remerge_laws.proofs.AgainLaneLemmas.{lanes-merged}
use Rattle.remerge_laws.proofs.WholeLemmas.{one-document}
use Rattle.generate_laws.specs.Generated.{both_blocks}
use Rattle.generate_laws.proofs.DamageLemmas.{HasNoDamage, none-damaged, output-undamaged}
use Rattle.generate_laws.proofs.DocumentLemmas.{plain_document}
use Rattle.generate_laws.proofs.FileLemmas.{tracks_of}
use Rattle.generate_laws.proofs.LimitLemmas.{IsPlain, files-plain, sound as document-valid}
use Rattle.generate_laws.proofs.MergedLemmas.{merged-one}
use Rattle.generate_laws.proofs.SourceLemmas.{IsReadPlain, plain-read, source_at}
use Rattle.generate_laws.proofs.TracksLemmas.{both_tracks}

-- ---- the blocks on no output track yet

pub all-unplaced : (medium : MediaKind) (is : List ℕ) → All HasNoLane (map (block_of medium) is)
all-unplaced medium [] = All-nil HasNoLane
all-unplaced medium (i ∷ is) = All-cons HasNoLane (block_of medium i) (map (block_of medium) is) (one medium) (all-unplaced medium is)
  where
    of : (t : Bool) (x y : OutputBlock) → HasNoLane x → HasNoLane y → HasNoLane (if t then x else y)
    of true x y first second = first
    of false x y first second = second

    one : (m : MediaKind) → HasNoLane (block_of m i)
    one Pictures = refl
    one Sounds = of _ _ _ refl refl

-- ---- one file as the only source

module _ (rules : List CueRule) (tracks : Node) (lanes : ℕ) (bs : List OutputBlock) (is : IsPlain lanes tracks bs) (name : List ℕ) (parts : List (List OutputBlock)) where
  abbrev d : Document
  d = plain_document rules tracks bs

  -- It has the output tracks that were merged to its blocks.
  pub lanes-read : bs ≡ merged parts → All (All HasNoLane) parts → length parts ≡ lanes → (read : IsReadPlain name d tracks)
      → map (lane_blocks 1000000) (lanes_given (source_at name d read.info_at read.tracks_at tracks ∷ [])) ≡ parts
  lanes-read same none many read =
      let s : Source = source_at name d read.info_at read.tracks_at tracks in
      ap (λ (scale : ℕ). map (lane_blocks scale) (lanes_given (s ∷ []))) (sym (info-scale 1000000 [] (omega arith)))
      ∙ (lanes-merged lanes-again).lanes d default_limits parts s.1 (document-valid rules tracks lanes bs is) (ap (clusters default_limits) same) none
      (read.taken.many ∙ is.has.many ∙ sym many) read.output

-- ---- both files

abbrev pub both_rules : List CueRule
both_rules = Key ∷ Never ∷ []

module _ (n : ℕ) (few : n ≤ 100000) (names : Names) where
  -- both files as they are read
  pub picture-read : IsReadPlain names.pictures (file_of Pictures n) (tracks_of Pictures)
  picture-read = plain-read (rule_of Pictures ∷ []) (tracks_of Pictures) 1 (made_lane Pictures n) (files-plain Pictures n few) names.pictures

  pub sound-read : IsReadPlain names.sounds (file_of Sounds n) (tracks_of Sounds)
  sound-read = plain-read (rule_of Sounds ∷ []) (tracks_of Sounds) 1 (made_lane Sounds n) (files-plain Sounds n few) names.sounds

  abbrev pub first : Source
  first = source_at names.pictures (file_of Pictures n) picture-read.info_at picture-read.tracks_at (tracks_of Pictures)

  abbrev pub second : Source
  second = source_at names.sounds (file_of Sounds n) sound-read.info_at sound-read.tracks_at (tracks_of Sounds)

  abbrev pub sources : List Source
  sources = first ∷ second ∷ []

  abbrev words : MergeWords
  words = both_words names

  abbrev contents : List (List ℕ)
  contents = layout (file_of Pictures n) ∷ layout (file_of Sounds n) ∷ []

  -- the Tracks of the merged file
  abbrev pub tracks_merged : Node
  tracks_merged = both_tracks names.pictures names.sounds picture-read.tracks_at sound-read.tracks_at

  -- ---- the inputs are read

  inputs-read : inputs_of words contents ≡ Ok (first.1 ∷ second.1 ∷ [])
  inputs-read =
      let light = picture-read.light in
      ap (λ (r : Result InputRead InputRefusal). and_then (numbered 0 r) (λ (read : InputRead). and_then (inputs_from false 1 (counted 0 read.held) ((plain_file names.sounds, layout (file_of Sounds n)) ∷ [])) (λ (reads : List InputRead). Ok (read ∷ reads)))) (picture-read.found 0 (omega arith))
      ∙ ap (λ (r : Result InputRead InputRefusal). and_then (and_then (numbered 1 r) (λ (read : InputRead). Ok (read ∷ []))) (λ (reads : List InputRead). Ok (first.1 ∷ reads))) (sound-read.found (counted 0 first.1.held) (omega arith))

  -- ---- nothing refuses them

  planned : plan_refusal words (first.1 ∷ second.1 ∷ []) ≡ None
  unfolding uint_width least_size_width entry_of table
  planned = refl

  -- the sources for the inputs that were read; below, the first refusal
  abbrev sources_by : List InputRead → List Source
  sources_by reads = in_place (zip contents (timed_from [] 0 (chaptered with_chapters false no_texts.chapters reads))) ++ attached_sources false [] []

  abbrev found_by : Option (List ℕ) → Result (List InputRead) Refusal → Result (List Source) Refusal
  found_by written found =
      unless (first_cause (option_map OutputIsInput written ∷ result_err found ∷ chapters_refusal no_texts.chapters ∷ times_refusal [] ∷ attached_refusal []
      ∷ option_map Differs (append_refusal (timed_from [] 0 (chaptered with_chapters false no_texts.chapters (found_in found))))
      ∷ option_map Plan (plan_refusal words (reads_of (sources_by (found_in found)))) ∷ [])) (sources_by (found_in found))

  pub both-sources : first_written words ≡ None → sources_apart words contents ≡ Ok sources
  both-sources apart =
      ap (λ (o : Option (List ℕ)). found_by o (inputs_of words contents)) apart
      ∙ ap (λ (found : Result (List InputRead) Refusal). found_by None found) inputs-read
      ∙ ap (λ (why : Option PlanRefusal). unless (first_cause (option_map Plan why ∷ [])) sources) planned

  -- ---- the merged blocks

  file-lanes : (medium : MediaKind) (name : List ℕ) (read : IsReadPlain name (file_of medium n) (tracks_of medium))
      → map (lane_blocks 1000000) (lanes_given (source_at name (file_of medium n) read.info_at read.tracks_at (tracks_of medium) ∷ [])) ≡ made_blocks medium n ∷ []
  file-lanes medium name read =
      lanes-read (rule_of medium ∷ []) (tracks_of medium) 1 (made_lane medium n) (files-plain medium n few) name (made_blocks medium n ∷ []) (sym (merged-one (made_blocks medium n)))
      (All-cons (All HasNoLane) (made_blocks medium n) [] (all-unplaced medium _) (All-nil (All HasNoLane))) refl read

  both-lanes_read : map (lane_blocks 1000000) (lanes_given sources) ≡ made_blocks Pictures n ∷ made_blocks Sounds n ∷ []
  both-lanes_read =
      let a : List (List Given) = columns_from 0 (given_of first) [] in
      let b : List (List Given) = columns_from 0 (given_of second) [] ++ [] in
      map-append (lane_blocks 1000000) a b
      ∙ ap₂ (λ (x y : List (List OutputBlock)). x ++ y) (ap (map (lane_blocks 1000000)) (sym (append-nil a)) ∙ file-lanes Pictures names.pictures picture-read) (file-lanes Sounds names.sounds sound-read)

  pub blocks-merged : blocks_of words sources ≡ both_blocks n
  blocks-merged = ap (λ (lanes : List (List Given)). merged (map (lane_blocks 1000000) lanes)) (lanes-same (lanes_given sources)) ∙ ap merged both-lanes_read

  -- ---- the output

  abbrev pub both_document : Document
  both_document = plain_document both_rules tracks_merged (both_blocks n)

  -- the merged file
  abbrev pub both_file : PlannedOutput
  both_file = record { name = names.both; blocks = both_blocks n; document = both_document }

  pub both-output : outputs_of words sources ≡ both_file ∷ []
  unfolding uint_width least_size_width entry_of table
  both-output =
      one-document words sources refl refl
      ∙ ap (λ (bs : List OutputBlock). let o : PlannedOutput = record { name = names.both; blocks = bs; document = plain_document both_rules tracks_merged bs } in o ∷ []) blocks-merged

  -- ---- no damage

  none-in : All HasNoDamage sources
  none-in =
      All-cons HasNoDamage first (second ∷ []) (output-undamaged (file_of Pictures n) first.1 picture-read.output)
      (All-cons HasNoDamage second [] (output-undamaged (file_of Sounds n) second.1 sound-read.output) (All-nil HasNoDamage))

  none-met : (k : ℕ) → damages_met words sources k ≡ []
  none-met k = none-damaged words sources k none-in

  pub both-undamaged : has_damage words sources ≡ false
  both-undamaged = ap₂ (λ (x y : List Damage). is_some_of x || (is_some_of y || false)) (none-met 0) (none-met 1)

  pub both-unwarned : (made_of words sources).warned ≡ []
  both-unwarned = ap₂ (λ (x y : List Damage). damages_warned names.pictures x ++ (damages_warned names.sounds y ++ [])) (none-met 0) (none-met 1)
