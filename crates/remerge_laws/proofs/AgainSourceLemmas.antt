-- An output that is merged by itself is read as the one source of that merge.
use Rattle.std.proofs.Common.{◌≡◌, ℕ, Bool, true, false, not, ◌&&◌, ◌||◌, if◌then◌else◌, cond, List, [], ◌∷◌, ◌++◌, length, zip, Option, Some, None, Result, Ok, refl, ap, ◌∙◌}
use Rattle.std.specs.Prelude.{is_none, unwrap_or}
use Rattle.std.specs.Option.{option_map}
use Rattle.std.specs.Result.{result_err}
use Rattle.mkv_io.specs.declared.damage.Damage.{Damage}
use Rattle.ebml_numbers.specs.Number.{uint_width}
use Rattle.mkv_schema.specs.Outline.{Outlined, outline_of}
use Rattle.meta_records.specs.Records.{FileRecords, file_records}
use Rattle.output_laws.specs.Reading.{header_of_segment, outline_of_document}
use Rattle.output_model.specs.Document.{Document, layout}
use Rattle.input_files.specs.Inputs.{first_missing}
use Rattle.input_files.specs.Names.{begins_ebml, is_srt, is_srt_name}
use Rattle.input_files.specs.TextFiles.{text_files}
use Rattle.input_files.specs.declared.text_files.TextFiles.{TextFiles}
use Rattle.requests.specs.declared.merge.MergeWords.{MergeWords}
use Rattle.merge_inputs.specs.Input.{InputRead, file_read, found_then, input_of, input_with, refusal_of, text_read}
use Rattle.merge_inputs.specs.Input.{input_or_refusal as unless_unusable}
use Rattle.merge_inputs.specs.Taken.{first_unusable, taken_from}
use Rattle.merge_inputs.specs.declared.input.InputRefusal.{InputRefusal}
use Rattle.merge_inputs.specs.declared.input.InputRefusal.TheVariants.{Damaged}
use Rattle.merge_plan.specs.Appending.{append_refusal}
use Rattle.merge_plan.specs.Attached.{attached_sources}
use Rattle.merge_plan.specs.Front.{reads_of}
use Rattle.merge_plan.specs.Places.{in_place}
use Rattle.merge_plan.specs.Plan.{Source}
use Rattle.merge_plan.specs.Refusal.{plan_refusal}
use Rattle.merge_plan.specs.declared.refusal.PlanRefusal.{PlanRefusal}
use Rattle.mkv_merge.specs.Chapters.{chaptered, chapters_refusal, with_chapters}
use Rattle.mkv_merge.specs.Merge.{attached_refusal, refusals_read, sources_in, sources_of, warned_if, verdict_of}
use Rattle.requests.specs.Plain.{plain_file}
use Rattle.mkv_merge.specs.Read.{first_written, found_in, inputs_of, numbered, pending_of}
use Rattle.mkv_merge.specs.Refused.{first_cause}
use Rattle.mkv_io.specs.Results.{and_then, unless}
use Rattle.mkv_merge.specs.Texts.{missing_text, timed_from, times_refusal}
use Rattle.mkv_merge.specs.declared.refusal.Refusal.{Refusal}
use Rattle.mkv_merge.specs.declared.refusal.Refusal.TheVariants.{Differs, Missing, MissingAttached, OutputIsInput, Plan}
use Rattle.remerge_laws.specs.AgainSources.{CanBegin, MergeIsDone, OutputsAreSources}
use Rattle.remerge_laws.specs.Plain.{merge_again}
use Rattle.remerge_laws.specs.Repeat.{source_again}

-- ---- an output isn't a SubRip text

begins : (d : Document) → begins_ebml (layout d) ≡ true
unfolding uint_width
begins d = refl

not-text : (name : List ℕ) (d : Document) → is_srt name (layout d) ≡ false
not-text name d = by_name (is_srt_name name)
  where
    by_name : (b : Bool) → (b && not (begins_ebml (layout d))) ≡ false
    by_name true = ap not (begins d)
    by_name false = refl

-- ---- result of reading it

module _ (world : List ℕ → Option (List ℕ)) (duration : Bool) (out name : List ℕ) (d : Document) (r : FileRecords) where
  abbrev words : MergeWords
  words = merge_again duration out name

  abbrev texts : TextFiles
  texts = text_files world None words.files

  abbrev source : Source
  source = source_again name d r

  -- the input for an outline and records, unless a track can't be used
  abbrev input_by : Outlined → FileRecords → Result InputRead InputRefusal
  input_by o found = unless_unusable (refusal_of (taken_from (plain_file name) 0 found.tracks)) (input_with (plain_file name) false o found)

  read-again : outline_of 0 (layout d) ≡ Ok (outline_of_document d (length (layout d))) → file_records (layout d) (header_of_segment d) ≡ Ok r
      → first_unusable (taken_from (plain_file name) 0 r.tracks) ≡ None → input_of (plain_file name) false 0 (layout d) ≡ Ok source.1
  read-again outlined records usable =
      ap (λ (text : Bool). if text then text_read (plain_file name) (layout d) else file_read (plain_file name) false 0 (layout d)) (not-text name d)
      ∙ ap (λ (found : Result Outlined Damage). found_then found (λ (o : Outlined). found_then (file_records (layout d) o.segment) (input_by o))) outlined
      ∙ ap (λ (found : Result FileRecords Damage). found_then found (input_by (outline_of_document d (length (layout d))))) records
      ∙ ap (λ (unusable : Option Damage). unless_unusable (option_map Damaged unusable) source.1) usable

  -- ---- the one source

  -- the sources for the one input that was read; below, the refusal of the merge
  abbrev sources_by : List InputRead → List Source
  sources_by reads = in_place (zip (layout d ∷ []) (timed_from texts.times 0 (chaptered with_chapters false texts.chapters reads))) ++ attached_sources false [] []

  abbrev refusals_by : Result (List InputRead) Refusal → List (Option Refusal)
  refusals_by found =
      result_err found ∷ chapters_refusal texts.chapters ∷ times_refusal texts.times ∷ attached_refusal []
      ∷ option_map Differs (append_refusal (timed_from texts.times 0 (chaptered with_chapters false texts.chapters (found_in found))))
      ∷ option_map Plan (plan_refusal words (reads_of (sources_by (found_in found)))) ∷ []

  -- the same, by the content of the name and the result of reading it
  abbrev found_by : Option (List ℕ) → Option (List ℕ) → Option Refusal → Result (List InputRead) Refusal → Result (List Source) Refusal
  found_by written held pending found =
      unless (first_cause (option_map OutputIsInput written ∷ option_map Missing (cond (is_none held) (Some 0) None) ∷ missing_text texts ∷ option_map MissingAttached (first_missing world []) ∷ pending ∷ refusals_by found)) (sources_by (found_in found))

  -- the result of reading the one input
  abbrev read_by : Result InputRead InputRefusal → Result (List InputRead) Refusal
  read_by found = and_then (numbered 0 found) (λ (read : InputRead). Ok (read ∷ []))

  one-source : CanBegin world words (layout d) → input_of (plain_file name) false 0 (layout d) ≡ Ok source.1 → plan_refusal words (reads_of (source ∷ [])) ≡ None
      → sources_of world words ≡ Ok (source ∷ [])
  one-source begun read planned =
      let held : world name ≡ Some (layout d) = cc (begun.there) in
      ap (λ (o : Option (List ℕ)). unless (first_cause (option_map OutputIsInput (first_written words) ∷ option_map Missing (cond (is_none o) (Some 0) None) ∷ missing_text texts
      ∷ option_map MissingAttached (first_missing world []) ∷ pending_of world words
      ∷ refusals_read words texts (unwrap_or o [] ∷ []) [])) (sources_in words texts (unwrap_or o [] ∷ []) [])) held
      ∙ ap (λ (o : Option (List ℕ)). found_by o (Some (layout d)) (pending_of world words) (inputs_of words (layout d ∷ []))) begun.apart
      ∙ ap (λ (o : Option Refusal). found_by None (Some (layout d)) o (inputs_of words (layout d ∷ []))) begun.settled
      ∙ ap (λ (found : Result InputRead InputRefusal). found_by None (Some (layout d)) None (read_by found)) read
      ∙ ap (λ (why : Option PlanRefusal). unless (first_cause (option_map Plan why ∷ [])) (source ∷ [])) planned

pub outputs-sources : OutputsAreSources
outputs-sources world duration out name d r begun outlined records usable planned =
    one-source world duration out name d r begun (read-again world duration out name d r outlined records usable) planned

-- ---- end of the merge

pub merge-done : MergeIsDone
merge-done world duration out name s are whole =
    ap (λ (found : Result (List Source) Refusal). (verdict_of (merge_again duration out name) found).status) are ∙ ap (λ (damaged : Bool). warned_if (damaged || false)) whole
