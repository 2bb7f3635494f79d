-- The limits on the bytes that `generate` reads, all of files that it has written itself. They are this project's.
use Rattle.std.specs.Prelude.{◌≡◌, ◌≢◌, ◌≤◌, ℕ, ◌+◌, List, ◌++◌, length, map, sum_by, Option, Some, Result, Ok, Err}
use Rattle.mkv_io.specs.Names.{Names}
use Rattle.output_model.specs.Document.{layout}
use Rattle.requests.specs.declared.merge.MergeWords.{MergeWords}
use Rattle.remux_plan.specs.Parts.{PlannedOutput}
use Rattle.remuxer.specs.Output.{WritesAll}
use Rattle.mkv_merge.specs.Bound.{most_of, walked_size}
use Rattle.mkv_merge.specs.Joined.{sources_apart}
use Rattle.mkv_merge.specs.declared.refusal.Refusal.{Refusal}
use Rattle.mkv_generate.specs.declared.names.Names as own
use Rattle.mkv_generate.specs.Generate.{MergeMade, both_words, merge_of, names_of, parts_words, two_files}
use Rattle.mkv_generate.specs.Outcome.{IsOneFile}

-- the contents of the outputs `files`, each as bytes. Bounds on what `generate` reads use them.
abbrev pub layouts : List PlannedOutput → List (List ℕ)
layouts files = map (λ (o : PlannedOutput). layout o.document) files

-- the limit in bytes for the merge with the command line `words` of inputs with the contents `contents`. `most_made` uses it.
abbrev pub most_merged : MergeWords → List (List ℕ) → ℕ
most_merged words contents =
    most_of (sources_apart words contents) (sum_by (λ (bytes : List ℕ). length bytes) contents) (walked_size words.files (map (λ (bytes : List ℕ). length bytes) contents))

-- the limit in bytes for the split of the merged file of `names`, if its merge made it; 0 if the merge is refused. `most_made` uses it.
abbrev pub most_behind : own.Names → Result MergeMade Refusal → ℕ
most_behind names (Ok both) = most_merged (parts_words names) (layouts both.outputs)
most_behind names (Err why) = 0

-- the limit in bytes for both merges of `generate`, for `n` pictures and the files `names`: the two files, and then the merged one. The contract of
-- `make` has it.
abbrev pub most_made : ℕ → own.Names → ℕ
most_made n names = most_merged (both_words names) (layouts (two_files n names)) + most_behind names (merge_of (both_words names) (two_files n names))

-- the limit in bytes for `generate N PREFIX`, where `n` is N and `prefix` is PREFIX, with any other files present. The contract of `generate` has it.
abbrev pub most_to_generate : ℕ → List ℕ → ℕ
most_to_generate n prefix = most_made n (names_of prefix)

-- ---- on the way

-- The split reads at most its limit, if the two files and the merged file of `names` are complete in the names `old`. `before` and `now` are the
-- counts of bytes read before and after. The contract of `make_parts` has it.
abbrev pub ReadsMerged : Names → own.Names → ℕ → ℕ → Type 0
ReadsMerged old names before now =
    (n : ℕ) (first : Names) (world : List ℕ → Option (List ℕ)) (made : MergeMade) → first ≡ Some world → merge_of (both_words names) (two_files n names) ≡ Ok made → IsOneFile names.both made
    → WritesAll first old (two_files n names ++ made.outputs) → now ≤ before + most_merged (parts_words names) (layouts made.outputs)

-- Both merges read at most their limit, if the two files of `names` are complete in the names `old`. `before` and `now` are the counts of bytes read
-- before and after. The contract of `make_both` has it.
abbrev pub ReadsBoth : Names → own.Names → ℕ → ℕ → Type 0
ReadsBoth old names before now =
    (n : ℕ) (first : Names) (world : List ℕ → Option (List ℕ)) → first ≡ Some world → names.pictures ≢ names.sounds → WritesAll first old (two_files n names) → now ≤ before + most_made n names
