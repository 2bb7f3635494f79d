-- An output that is merged by itself is read as the one source of that merge: RFC 8794, section 8 (EBML Document). Refusals and ends of a merge
-- are this project's.
use Rattle.std.specs.Prelude.{◌≡◌, ℕ, Bool, false, List, [], ◌∷◌, length, map, Option, Some, None, Ok}
use Rattle.mkv_schema.specs.Outline.{outline_of}
use Rattle.meta_records.specs.Records.{FileRecords, file_records}
use Rattle.output_laws.specs.Reading.{header_of_segment, outline_of_document}
use Rattle.output_model.specs.Document.{Document, layout}
use Rattle.input_files.specs.Inputs.{file_names}
use Rattle.requests.specs.declared.merge.MergeWords.{MergeWords}
use Rattle.merge_inputs.specs.Taken.{first_unusable, taken_from}
use Rattle.merge_plan.specs.Front.{reads_of}
use Rattle.merge_plan.specs.Plan.{Source}
use Rattle.merge_plan.specs.Refusal.{plan_refusal}
use Rattle.mkv_lines.specs.declared.status.Status.TheVariants.{Done}
use Rattle.mkv_merge.specs.Merge.{has_damage, merge_verdict, sources_of}
use Rattle.requests.specs.Plain.{plain_file}
use Rattle.mkv_merge.specs.Read.{first_written, pending_of}
use Rattle.remerge_laws.specs.Plain.{merge_again}
use Rattle.remerge_laws.specs.Repeat.{source_again}

-- A merge `words` of one file with the content `bytes` isn't refused before it reads the file; `world` has the content of each name. The output has
-- another name than the files that are read, and the file exists. Neither the file nor the output's name has a pending edit. A condition of the law
-- that an output, merged by itself, is written as it was.
pub record CanBegin (world : List ℕ → Option (List ℕ)) (words : MergeWords) (bytes : List ℕ) : Type 0 where
  pub apart : first_written words ≡ None
  pub there : map world (file_names words.files) ≡ Some bytes ∷ []
  pub settled : pending_of world words ≡ None

-- A merge of the file `name`, an output with the document `d`, to `out` and without options, or with `--duration`, has it as its one source. `r` are
-- the records that are read from it, and `world` has the content of each name. The merge must not be refused before reading or by its plan, and its
-- tracks must be usable.
abbrev pub OutputsAreSources : Type 0
OutputsAreSources =
    (world : List ℕ → Option (List ℕ)) (duration : Bool) (out name : List ℕ) (d : Document) (r : FileRecords) → CanBegin world (merge_again duration out name) (layout d)
    → outline_of 0 (layout d) ≡ Ok (outline_of_document d (length (layout d))) → file_records (layout d) (header_of_segment d) ≡ Ok r
    → first_unusable (taken_from (plain_file name) 0 r.tracks) ≡ None → plan_refusal (merge_again duration out name) (reads_of (source_again name d r ∷ [])) ≡ None
    → sources_of world (merge_again duration out name) ≡ Ok (source_again name d r ∷ [])

-- A merge of the file `name` to `out`, without options or with `--duration`, of one source without damage ends with the status Done. `world` has the
-- content of each name.
abbrev pub MergeIsDone : Type 0
MergeIsDone =
    (world : List ℕ → Option (List ℕ)) (duration : Bool) (out name : List ℕ) (source : Source) → sources_of world (merge_again duration out name) ≡ Ok (source ∷ [])
    → has_damage (merge_again duration out name) (source ∷ []) ≡ false → (merge_verdict world (merge_again duration out name)).status ≡ Done
