-- The files that the code of `generate` has made, and the lines that report them.
use Rattle.std.specs.Prelude.{◌≡◌, ◌≢◌, ℕ, ◌||◌, List, [], ◌∷◌, ◌++◌, length, map, Option, Some, Result, Ok, Err}
use Rattle.mkv_io.specs.Names.{Names}
use Rattle.mkv_outputs.specs.Outputs.{with_outputs}
use Rattle.remux_plan.specs.Parts.{PlannedOutput}
use Rattle.remux_plan.specs.Summary.{written_of}
use Rattle.remuxer.specs.Output.{WritesAll}
use Rattle.mkv_lines.specs.Verdict.{Leaves, Verdict, list_of}
use Rattle.mkv_lines.specs.declared.status.Status.{Status}
use Rattle.mkv_lines.specs.declared.status.Status.TheVariants as status
use Rattle.mkv_lines.specs.declared.status.CommandEnd.{CommandEnd}
use Rattle.mkv_io.specs.Lists.{is_some_of}
use Rattle.mkv_merge.specs.Merge.{warned_if}
use Rattle.mkv_merge.specs.Refused.{line_of}
use Rattle.mkv_merge.specs.Told.{warnings_from}
use Rattle.mkv_generate.specs.declared.making.Done.{Done}
use Rattle.mkv_generate.specs.declared.making.Outcome.{Outcome}
use Rattle.mkv_generate.specs.declared.making.Outcome.TheVariants.{Refused, Made}
use Rattle.mkv_generate.specs.declared.names.Names as own
use Rattle.mkv_generate.specs.Generate.{MergeMade, both_words, first_written, line_for, merge_of, two_files, verdict_of}

-- ---- lines

-- the warnings about the files that the completed merge `d` of `generate` read
abbrev pub warned_of : Done → List (List ℕ)
warned_of d = warnings_from d.summary 0 d.words.files

-- the lines that `generate` prints for `n` pictures and this outcome: one line and the warnings, or the error line of a refusal
abbrev pub lines_of : ℕ → Outcome → List (List ℕ)
lines_of n (Refused words why) = line_of words why ∷ []
lines_of n (Made both parts) = line_for n (first_written both.summary.outputs) (length parts.summary.outputs) ∷ warned_of both ++ warned_of parts

-- the status of `generate` for this outcome: a refusal, or a warning if a merge met damage
abbrev pub status_for : Outcome → Status
status_for (Refused words why) = status.Refused
status_for (Made both parts) = warned_if (is_some_of both.summary.damages || is_some_of parts.summary.damages)

-- ---- files

-- The summary of the code's completed merge `d` of `generate` is what the definitions give as `m`. `MakesParts` requires it of the first merge.
pub record IsDone (m : MergeMade) (d : Done) : Type 0 where
  pub outputs : d.summary.outputs ≡ map written_of m.outputs
  pub warned : warned_of d ≡ m.warned
  pub damaged : is_some_of d.summary.damages ≡ m.damaged

-- The merge `m` of `generate` has one output, with the name `name`. `MakesParts` requires it of the merged file.
pub record IsOneFile (name : List ℕ) (m : MergeMade) : Type 0 where
  pub file : PlannedOutput
  pub alone : m.outputs ≡ file ∷ []
  pub named : file.name ≡ name

-- The names `old` have become `new`: all outputs of `v`, the defined outcome of `generate` for `n` pictures, are complete. The code's `outcome` has
-- its status and lines. `Makes` uses it.
pub record HasMade (old new : Names) (n : ℕ) (outcome : Outcome) (v : Verdict) : Type 0 where
  pub whole : new ≡ with_outputs old (list_of v.outputs)
  pub lines : v.lines ≡ lines_of n outcome
  pub status : v.status ≡ status_for outcome

-- The contents `old` of all names have become `new`: the files `names` of `generate` for `n` pictures are made as defined. After a failure some first
-- ones are complete, and the next one is a draft. The contract of `make` has it.
abbrev pub Makes : Names → Names → ℕ → own.Names → Result Outcome CommandEnd → Type 0
Makes old new n names (Ok outcome) = HasMade old new n outcome (verdict_of n names)
Makes old new n names (Err why) = Leaves old new (verdict_of n names).outputs

-- `Makes` holds of the files `names`, from the contents `old` of all names to `new`. It needs that the two files and the merged file, made by `both`,
-- are complete in `old`. The contract of `make_parts` has it. `result` is what the call returned.
abbrev pub MakesParts : Names → Names → own.Names → Done → Result Outcome CommandEnd → Type 0
MakesParts old new names both result =
    (n : ℕ) (before : Names) (world : List ℕ → Option (List ℕ)) (made : MergeMade) → before ≡ Some world → merge_of (both_words names) (two_files n names) ≡ Ok made → IsDone made both → IsOneFile names.both made
    → WritesAll before old (two_files n names ++ made.outputs) → Makes before new n names result

-- `Makes` holds of the files `names`, from the contents `old` of all names to `new`, if the two files are complete in `old`. The contract of
-- `make_both` has it. `result` is what the call returned.
abbrev pub MakesBoth : Names → Names → own.Names → Result Outcome CommandEnd → Type 0
MakesBoth old new names result =
    (n : ℕ) (before : Names) (world : List ℕ → Option (List ℕ)) → before ≡ Some world → names.pictures ≢ names.sounds → WritesAll before old (two_files n names) → Makes before new n names result
