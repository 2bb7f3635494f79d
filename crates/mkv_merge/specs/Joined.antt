-- The result of a merge that prints nothing and looks at no file besides its inputs. It is this project's.
use Rattle.std.specs.Prelude.{◌≡◌, ℕ, List, [], ◌∷◌, map, flat_map, Option, Result, Ok, Err}
use Rattle.std.specs.List.{enumerate_from}
use Rattle.std.specs.Option.{option_map}
use Rattle.mkv_io.specs.Names.{Names}
use Rattle.mkv_io.specs.Told.{IfVisible}
use Rattle.mkv_io.specs.declared.outside.FileId.{FileId}
use Rattle.mkv_io.specs.declared.reads.Reads.{Ghosts}
use Rattle.mkv_io.specs.declared.files.Files as writing
use Rattle.mkv_outputs.specs.Drafts.{AreWrittenInOrder}
use Rattle.input_files.specs.Inputs.{attached_names, file_names, first_missing}
use Rattle.input_files.specs.declared.text_files.TextFiles.{TextFiles}
use Rattle.input_files.specs.declared.chapter_file.ChapterFile.TheVariants.{Absent}
use Rattle.requests.specs.declared.merge.MergeWords.{MergeWords}
use Rattle.merge_plan.specs.Plan.{Source}
use Rattle.remux_plan.specs.Parts.{PlannedOutput}
use Rattle.remux_plan.specs.Summary.{written_of}
use Rattle.remux_plan.specs.declared.summary.Summary.{Summary}
use Rattle.remuxer.specs.Output.{WritesAll, drafts_of}
use Rattle.mkv_lines.specs.declared.status.CommandEnd.{CommandEnd}
use Rattle.mkv_io.specs.Bounds.{ReadsUpTo}
use Rattle.mkv_merge.specs.Attached.{attached_ids, own_ids}
use Rattle.mkv_merge.specs.Bound.{contents_walked, live_size, live_walked, most_of, opened_length}
use Rattle.mkv_merge.specs.Ends.{end_as}
use Rattle.mkv_io.specs.Lists.{is_some_of}
use Rattle.mkv_merge.specs.Merge.{has_damage, outputs_of, sources_unless, warnings}
use Rattle.mkv_merge.specs.Prepared.{IfBothTold}
use Rattle.mkv_merge.specs.Read.{attached_held, contents_held, first_written}
use Rattle.mkv_merge.specs.Told.{warnings_from}
use Rattle.mkv_merge.specs.declared.joining.Merged.{Merged}
use Rattle.mkv_merge.specs.declared.joining.Merged.TheVariants.{Written, Refused}
use Rattle.mkv_merge.specs.declared.refusal.MergeEnd.{MergeEnd}
use Rattle.mkv_merge.specs.declared.refusal.Refusal.{Refusal}
use Rattle.mkv_merge.specs.declared.refusal.Refusal.TheVariants.{Missing, MissingAttached, OutputIsInput}

-- the text files of a merge whose command line names none, as `generate` merges
abbrev pub no_texts : TextFiles
no_texts = record { chapters = Absent; times = [] }

-- the sources of the merge `words` without text files and attached files, if its inputs have the contents `contents`, or its refusal. It is refused
-- first if an output could have the name of a file that is read. For the merges of `generate`.
abbrev pub sources_apart : MergeWords → List (List ℕ) → Result (List Source) Refusal
sources_apart words contents = sources_unless (option_map OutputIsInput (first_written words) ∷ []) words no_texts contents []

-- the sources of the merge `words` without text files, if the files are `world`, or its refusal. An output with the name of a file that is read, a
-- missing input and a missing attached file are refused first, in this order. Pending edits don't matter. For the contract of `merge_files`.
abbrev pub sources_alone : (List ℕ → Option (List ℕ)) → MergeWords → Result (List Source) Refusal
sources_alone world words =
    sources_unless (
    option_map OutputIsInput (first_written words)
    ∷ option_map Missing (first_missing world (file_names words.files))
    ∷ option_map MissingAttached (first_missing world (attached_names words.attached))
    ∷ [])
    words no_texts (contents_held world words) (attached_held world words)

-- the number of bytes that the merge `words` without text files may read if the files are `world`. The contract of `merge_files` states it as a
-- bound.
abbrev pub most_lone : (List ℕ → Option (List ℕ)) → MergeWords → ℕ
most_lone world words = most_of (sources_alone world words) (opened_length world words) (contents_walked world words.files)

-- ---- merged files

-- The summary `s` of the merge `words` lists the outputs of `sources`, and gives the warnings about their damage. A part of `HasMerged`.
pub record IsSummaryOf (words : MergeWords) (sources : List Source) (s : Summary) : Type 0 where
  pub outputs : s.outputs ≡ map written_of (outputs_of words sources)
  pub warned : warnings_from s 0 words.files ≡ flat_map (warnings words sources) (enumerate_from 0 words.files)
  pub damaged : is_some_of s.damages ≡ has_damage words sources

-- From the files `old` to the files `new`, the merge `words` has written all outputs of its sources, and nothing else. `found` has these sources, and
-- `s` is the summary. The result of `merge_files` if it wrote its outputs.
pub record HasMerged (old new : Names) (words : MergeWords) (found : Result (List Source) Refusal) (s : Summary) : Type 0 where
  pub sources : List Source
  pub are : found ≡ Ok sources
  pub writes : WritesAll old new (outputs_of words sources)
  pub summary : IsSummaryOf words sources s

-- the outputs of the merge `words` if `found` has its sources; none if it has a refusal. For `Merges`.
abbrev pub outputs_found : MergeWords → Result (List Source) Refusal → List PlannedOutput
outputs_found words (Ok sources) = outputs_of words sources
outputs_found words (Err why) = []

-- The result of a merge that prints nothing, with the files `old` before it and `new` after it. All outputs of the sources in `found` were written,
-- or `found` has its refusal and no file changed. After a stop some first outputs are complete, and the next one is a draft. Used by the contracts of
-- `merge_files` and its steps. `words` are the options of the merge.
abbrev pub Merges : Names → Names → MergeWords → Result (List Source) Refusal → Result Merged CommandEnd → Type 0
Merges old new words found (Ok (Written s)) = HasMerged old new words found s
Merges old new words found (Ok (Refused why)) = (found ≡ Err why) × (new ≡ old)
Merges old new words found (Err stop) = AreWrittenInOrder old new (drafts_of (outputs_found words found))

-- the result of `merge_files`, by the end of its merge: a summary, a refusal, or a stop. The contracts of `join_opened` and `join_named` state their
-- results so.
abbrev pub as_merged : Result Summary MergeEnd → Result Merged CommandEnd
as_merged result = end_as Written Refused result

-- `Merges` holds for the live files `list`, the inputs and attached files, if names and contents are visible to the proof. The state is `old` before
-- the merge `words` and `new` after it. The contract of `join_opened` states it. `r` and `f` give the proof's view of the files. `result` is what the
-- call returned.
abbrev pub MergesLive : {S : Type 0} → Ghosts S → writing.Ghosts S → S → S → MergeWords → List FileId → Result Merged CommandEnd → Type 0
MergesLive r f old new words list result = IfBothTold r old (own_ids words list) (attached_ids words list) (λ contents attached.
    Merges (f.names old) (f.names new) words (sources_unless [] words no_texts contents attached) result)

-- `Merges` holds for the files that `words` names, if their contents are visible to the proof. The state is `old` before the merge and `new` after
-- it. The contract of `merge_files` states it. `f` gives the proof's view of the files. `result` is what the call returned.
abbrev pub MergesAlone : {S : Type 0} → writing.Ghosts S → S → S → MergeWords → Result Merged CommandEnd → Type 0
MergesAlone f old new words result = IfVisible (f.names old) (λ world. Merges (f.names old) (f.names new) words (sources_alone world words) result)

-- From `old` to `new` the merge `words` without text files reads no more bytes of the live files `list` than `most_of` gives. The contract of
-- `join_opened` states it. `r` gives the proof's view of the files.
abbrev pub ReadsLive : {S : Type 0} → Ghosts S → S → S → MergeWords → List FileId → Type 0
ReadsLive r old new words list = IfBothTold r old (own_ids words list) (attached_ids words list) (λ contents attached.
    let found = sources_unless [] words no_texts contents attached in
    ReadsUpTo r old new (most_of found (live_size r old list) (live_walked r old words.files (own_ids words list))))
