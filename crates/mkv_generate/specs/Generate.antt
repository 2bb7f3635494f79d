-- The outcome of `generate`: its status, its files, and its line. All of it is this project's.
use Rattle.std.specs.Prelude.{ℕ, ◌++◌, ◌||◌, Bool, List, [], ◌∷◌, codes, length, map, flat_map, Some, None, Result, Ok, Err}
use Rattle.std.specs.List.{enumerate_from}
use Rattle.output_model.specs.Document.{layout}
use Rattle.requests.specs.declared.split.SplitWords.TheVariants.{Duration}
use Rattle.requests.specs.declared.merge.MergeWords.{MergeWords}
use Rattle.remux_plan.specs.Parts.{PlannedOutput}
use Rattle.remux_plan.specs.Summary.{written_of}
use Rattle.remux_plan.specs.declared.summary.Written.{Written}
use Rattle.remuxer.specs.Output.{drafts_of}
use Rattle.merge_plan.specs.Plan.{Source}
use Rattle.mkv_merge.specs.Joined.{sources_apart}
use Rattle.mkv_merge.specs.Merge.{has_damage, outputs_of, warned_if, warnings}
use Rattle.requests.specs.Plain.{plain_file, plain_words}
use Rattle.mkv_merge.specs.Refused.{line_of}
use Rattle.mkv_io.specs.Results.{and_then}
use Rattle.mkv_io.specs.Told.{IfVisible}
use Rattle.mkv_io.specs.declared.files.Files.{Ghosts as FilesGhosts}
use Rattle.mkv_io.specs.declared.reads.Reads.{Ghosts as ReadsGhosts}
use Rattle.mkv_io.specs.declared.report.Report.{Ghosts as ReportGhosts}
use Rattle.mkv_lines.specs.Command.{Fulfils}
use Rattle.mkv_merge.specs.declared.refusal.Refusal.{Refusal}
use Rattle.mkv_lines.specs.Line.{generated_line}
use Rattle.mkv_lines.specs.Verdict.{Verdict, in_turn}
use Rattle.mkv_lines.specs.declared.status.Status.{Status}
use Rattle.mkv_lines.specs.declared.status.CommandEnd.{CommandEnd}
use Rattle.mkv_lines.specs.declared.status.Status.TheVariants.{Refused}
use Rattle.mkv_generate.specs.declared.blocks.MediaKind.{MediaKind}
use Rattle.mkv_generate.specs.declared.blocks.MediaKind.TheVariants.{Pictures, Sounds}
use Rattle.mkv_generate.specs.declared.names.Names.{Names}
use Rattle.mkv_generate.specs.Blocks.{blocks_of}
use Rattle.mkv_generate.specs.Files.{file_of}

-- ---- names

-- the names of the files that `generate` writes, for the prefix `prefix` on the command line
abbrev pub names_of : List ℕ → Names
names_of prefix = record {
  pictures = prefix ++ codes "-a.mkv";
  sounds = prefix ++ codes "-b.mkv";
  both = prefix ++ codes "-m.mkv";
  parts = prefix ++ codes "-s.mkv";
}

-- ---- the two files

-- the output `name` of `generate`, of the kind `medium`, pictures or sounds, for `n` pictures. `two_files` uses it.
abbrev pub made_file : MediaKind → ℕ → List ℕ → PlannedOutput
made_file medium n name = record { name = name; blocks = blocks_of medium n; document = file_of medium n }

-- the two files of `names` that `generate` writes and merges, for `n` pictures: the pictures, and two sounds for each
abbrev pub two_files : ℕ → Names → List PlannedOutput
two_files n names = made_file Pictures n names.pictures ∷ made_file Sounds n names.sounds ∷ []

-- ---- files that are made from them

-- the command line of the first merge of `generate`, of both files that `names` has
abbrev pub both_words : Names → MergeWords
both_words names = plain_words names.both None (plain_file names.pictures ∷ plain_file names.sounds ∷ [])

-- the command line of the second merge of `generate`, which splits the merged file of `names` into parts of ten seconds
abbrev pub parts_words : Names → MergeWords
parts_words names = plain_words names.parts (Some (Duration 10000000000)) (plain_file names.both ∷ [])

-- The result of a merge of `generate`: its outputs, the warnings about the files that it reads, and whether one of them is damaged. Both merges of
-- the outcome have one.
pub record MergeMade : Type 0 where
  pub outputs : List PlannedOutput
  pub warned : List (List ℕ)
  pub damaged : Bool

-- the result of the merge of `sources` with the command line `words`, in `generate`. `merge_of` uses it.
abbrev pub made_of : MergeWords → List Source → MergeMade
made_of words sources = record {
  outputs = outputs_of words sources;
  warned = flat_map (warnings words sources) (enumerate_from 0 words.files);
  damaged = has_damage words sources;
}

-- the result of the merge of the files `files` with the command line `words`, or its refusal; no journal is looked at. `generate` does this for both
-- merges.
abbrev pub merge_of : MergeWords → List PlannedOutput → Result MergeMade Refusal
merge_of words files = and_then (sources_apart words (map (λ (o : PlannedOutput). layout o.document) files)) (λ sources. Ok (made_of words sources))

-- the outputs of a merge of `generate`, or none if it is refused
abbrev pub made_outputs : Result MergeMade Refusal → List PlannedOutput
made_outputs (Ok made) = made.outputs
made_outputs (Err why) = []

-- ---- result

-- the counts of the first output, which is the merged file; a merge that isn't split writes one file. The line of `generate` has them.
abbrev pub first_written : List Written → Written
first_written [] = record { name = []; blocks = 0; clusters = 0; cues = 0 }
first_written (file ∷ more) = file

-- the line that `generate` prints for `n` pictures: the counts of the merged file `both`, and the number of `parts`
abbrev pub line_for : ℕ → Written → ℕ → List ℕ
line_for n both parts = generated_line n both.blocks both.clusters both.cues parts

-- the outcome of `generate` with the status `status`, the files `files`, written in sequence, and the lines `lines`
abbrev pub comes_to : Status → List PlannedOutput → List (List ℕ) → Verdict
comes_to status files lines = record { status = status; lines = lines; before = []; outputs = in_turn (drafts_of files) }

-- the outcome of `generate` for `n` pictures, once `files` and the merged file `both` of `names` are written. The split makes the parts or is
-- refused. Warnings follow the line. `with_both` uses it.
abbrev pub with_parts : ℕ → Names → List PlannedOutput → MergeMade → Result MergeMade Refusal → Verdict
with_parts n names files both (Ok parts) =
    comes_to (warned_if (both.damaged || parts.damaged)) (files ++ both.outputs ++ parts.outputs)
    (line_for n (first_written (map written_of both.outputs)) (length parts.outputs) ∷ both.warned ++ parts.warned)
with_parts n names files both (Err why) = comes_to Refused (files ++ both.outputs) (line_of (parts_words names) why ∷ [])

-- the outcome of `generate` for `n` pictures, once `files` of `names` are written, by the merge that makes the merged file or is refused.
-- `verdict_of` uses it.
abbrev pub with_both : ℕ → Names → List PlannedOutput → Result MergeMade Refusal → Verdict
with_both n names files (Ok both) = with_parts n names files both (merge_of (parts_words names) both.outputs)
with_both n names files (Err why) = comes_to Refused files (line_of (both_words names) why ∷ [])

-- the outcome of `generate` for `n` pictures and the names `names`: its status, files and lines
abbrev pub verdict_of : ℕ → Names → Verdict
verdict_of n names = with_both n names (two_files n names) (merge_of (both_words names) (two_files n names))

-- the outcome of `generate N PREFIX`, where `n` is N and `prefix` is PREFIX, with any other files present. The outcome of a run uses it. Used by
-- `Generates`.
abbrev pub generate_verdict : ℕ → List ℕ → Verdict
generate_verdict n prefix = verdict_of n (names_of prefix)

-- The call has the outcome of `generate` for `n` pictures and the names `names`, or failed on the way. `files` and `files'` are the states of the
-- files before and after, `report` and `report'` of the report. It is promised if the contents are visible to the proof. The contract of the inner
-- `generate` has it. `r`, `f` and `p` give the proof's view of the files and the report, and `result` is what the call returned.
abbrev pub MakesNamed : {F P : Type 0} → ReadsGhosts F → FilesGhosts F → ReportGhosts P → F → F → P → P → Result Status CommandEnd → ℕ → Names → Type 0
MakesNamed r f p files files' report report' result n names =
    IfVisible (f.names files) (λ world. Fulfils r f p files files' report report' result (verdict_of n names))

-- The call has the outcome of `generate N PREFIX`, where `n` is N and `prefix` is PREFIX, or failed on the way. `files` and `files'` are the states
-- of the files before and after, `report` and `report'` of the report. It is promised if the contents are visible to the proof. The contract of
-- `generate_of` has it. `r`, `f` and `p` give the proof's view of the files and the report, and `result` is what the call returned.
abbrev pub Generates : {F P : Type 0} → ReadsGhosts F → FilesGhosts F → ReportGhosts P → F → F → P → P → Result Status CommandEnd → ℕ → List ℕ → Type 0
Generates r f p files files' report report' result n prefix = MakesNamed r f p files files' report report' result n (names_of prefix)
