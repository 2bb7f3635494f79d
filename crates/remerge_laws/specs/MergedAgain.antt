-- The output of a merge, merged again by itself and without options, is written as it was: RFC 9559, section 5.1 (Segment Element). This is this
-- project's promise.
use Rattle.std.specs.Prelude.{◌≡◌, ⊤, ℕ, Bool, List, [], ◌∷◌, All, Option, Some, Ok, IfOk, map}
use Rattle.std.specs.Str.{IsUtf8}
use Rattle.mkv_io.specs.Names.{Names, with_content}
use Rattle.mkv_io.specs.Told.{IfVisible}
use Rattle.output_model.specs.Document.{layout}
use Rattle.remux_plan.specs.Parts.{PlannedOutput}
use Rattle.requests.specs.declared.merge.MergeWords.{MergeWords}
use Rattle.merge_plan.specs.Plan.{Source}
use Rattle.mkv_args.specs.Words.{command}
use Rattle.mkv_args.specs.declared.command.Command.TheVariants.{Merge}
use Rattle.mkv_lines.specs.declared.status.Status.{Status}
use Rattle.mkv_lines.specs.declared.status.Status.TheVariants.{Done, Warned, Refused}
use Rattle.mkv_merge.specs.Merge.{merge_verdict, outputs_of, sources_of}
use Rattle.mkv_merge.specs.Records.{HaveRecords}
use Rattle.merge_laws.specs.Merge.{IsMerged, laid_out}
use Rattle.merge_laws.specs.Sources.{HoldsOctets}
use Rattle.remerge_laws.specs.AgainSources.{CanBegin}
use Rattle.remerge_laws.specs.AsRead.{EndsAfterStart}
use Rattle.remerge_laws.specs.Limits.{IsWithinLimits}
use Rattle.remerge_laws.specs.Plain.{merge_again}
use Rattle.remerge_laws.specs.Repeat.{IsDefault}
use Rattle.remerge_laws.specs.Whole.{whole_document}

-- The content `bytes` is the output of a merge. A command line with default options asked for the merge, with `--duration` if `duration` is true, and
-- the contents of all files were bytes. Nothing refused it, the records of its sources can be read again, and it had this one output, whose Duration
-- is above 0, if it has one. A condition of `OutputsAreWrittenAgain`.
pub record IsMergeOutput (duration : Bool) (bytes : List ℕ) : Type 0 where
  pub world : List ℕ → Option (List ℕ)
  pub octets : HoldsOctets world
  pub line : List (List ℕ)
  pub utf8 : All IsUtf8 line
  pub words : MergeWords
  pub asked : command line ≡ Ok (Merge words)
  pub usual : IsDefault words
  pub lasting : words.duration ≡ duration
  pub sources : List Source
  pub taken : sources_of world words ≡ Ok sources
  pub records : HaveRecords words sources
  pub later : EndsAfterStart (whole_document words sources)
  pub written : map (λ (o : PlannedOutput). layout o.document) (outputs_of words sources) ≡ bytes ∷ []

-- A merge of the file `name`, which has the content `bytes`, by itself and to `out`, isn't refused and has no warning. It has no option but
-- `--duration`, if `duration` is true. Its one output has the same content. `world` has the content of each name. It is the result of
-- `OutputsAreWrittenAgain`.
pub record IsWrittenAgain (world : List ℕ → Option (List ℕ)) (duration : Bool) (out name bytes : List ℕ) : Type 0 where
  pub sources : List Source
  pub taken : sources_of world (merge_again duration out name) ≡ Ok sources
  pub outputs : map laid_out (outputs_of (merge_again duration out name) sources) ≡ record { name = out; content = bytes } ∷ []
  pub done : (merge_verdict world (merge_again duration out name)).status ≡ Done

-- The content `bytes` is the output of a merge with default options and keeps a reader's limits. A merge of the file `name` that has this content, to
-- `out` and without options, writes it again byte for byte. Both merges have `--duration`, if `duration` is true. `world` has the content of each
-- name. Nothing may refuse the second merge before it reads the file.
abbrev pub OutputsAreWrittenAgain : Type 0
OutputsAreWrittenAgain =
    (world : List ℕ → Option (List ℕ)) (duration : Bool) (out name bytes : List ℕ) → CanBegin world (merge_again duration out name) bytes
    → IsMergeOutput duration bytes → IsWithinLimits bytes → IsWrittenAgain world duration out name bytes

-- The content `bytes` that a merge with default options left under its output's name is the output of a merge. `world` has the contents before it,
-- `after` the contents after it, and `line` is the command line that asks for `words`. If the output has a Duration, it must be above 0.
abbrev pub MergedFilesAreOutputs : Type 0
MergedFilesAreOutputs =
    (world after : List ℕ → Option (List ℕ)) (line : List (List ℕ)) (words : MergeWords) (bytes : List ℕ)
    → HoldsOctets world → All IsUtf8 line → command line ≡ Ok (Merge words) → IsDefault words → IsMerged world words (Some after)
    → IfOk (sources_of world words) (λ sources. EndsAfterStart (whole_document words sources))
    → after words.output ≡ Some bytes → IsMergeOutput words.duration bytes

-- ---- a run

-- The statement `Stands` holds for a run of the command line `line` that merges the output of a merge by itself and without options. Both merges have
-- `--duration`, or neither. This file keeps a reader's limits, and nothing refuses the merge before reading. The names `old` are visible to the
-- proof, and all contents are bytes. `Stands` gets the contents by name, the output's name and the file's content.
abbrev pub WhereMergedAgain : Names → List (List ℕ) → ((List ℕ → Option (List ℕ)) → List ℕ → List ℕ → Type 0) → Type 0
WhereMergedAgain old line Stands =
    IfVisible old (λ world. HoldsOctets world → (duration : Bool) (out name bytes : List ℕ) → command line ≡ Ok (Merge (merge_again duration out name))
    → CanBegin world (merge_again duration out name) bytes → IsMergeOutput duration bytes → IsWithinLimits bytes → Stands world out bytes)

-- A run of the command line `line` that merges the output of a merge by itself isn't refused and has no warning. If it ends by itself, its output has
-- the content of the file, byte for byte. No other name has changed from `old` to `new`. Used by the contract of `run`.
abbrev pub MergesAgain : Names → List (List ℕ) → Names → Status → Type 0
MergesAgain old line new Done = WhereMergedAgain old line (λ world out bytes. new ≡ with_content (Some world) out bytes)
MergesAgain old line new Warned = WhereMergedAgain old line (λ world out bytes. ⊥)
MergesAgain old line new Refused = WhereMergedAgain old line (λ world out bytes. ⊥)
MergesAgain old line new s = ⊤
