-- A successful run has written the merge that was asked for, and the output of a merge again with the same bytes.
use Rattle.std.proofs.Common.{◌≡◌, ◌≢◌, ◌<◌, ℕ, get_or, List, map, IfOk, Option, Some, Result, Ok, sym, ap, ap₂, subst, ◌∙◌, arith}
use Rattle.std.specs.List.{All}
use Rattle.std.specs.Str.{IsUtf8}
use Rattle.std.specs.String.{string_bytes}
use Rattle.std.specs.declared.alloc.Global.{Global}
use Rattle.std.specs.declared.string.String.{String}
use Rattle.std.proofs.lemmas.List.Elements.{All-map}
use Rattle.std.proofs.lemmas.Str.{IsUtf8-string_bytes}
use Rattle.mkv_io.specs.Names.{Names}
use Rattle.mkv_io.specs.Told.{IfVisible}
use Rattle.word_values.specs.Place.{texts}
use Rattle.word_values.specs.declared.usage.Usage.{Usage}
use Rattle.requests.specs.declared.merge.MergeWords.{MergeWords}
use Rattle.merge_plan.specs.Plan.{Source}
use Rattle.mkv_outputs.specs.Outputs.{with_outputs}
use Rattle.mkv_args.specs.Words.{command}
use Rattle.mkv_args.specs.declared.command.Command.{Command}
use Rattle.mkv_args.specs.declared.command.Command.TheVariants.{Merge}
use Rattle.mkv_lines.specs.Code.{code_of}
use Rattle.mkv_lines.specs.Seen.{Seen}
use Rattle.mkv_lines.specs.Verdict.{IsDone}
use Rattle.mkv_lines.specs.declared.status.Status.{Status}
use Rattle.mkv_lines.specs.declared.status.Status.TheVariants as status
use Rattle.mkv_merge.specs.Merge.{merge_verdict, outputs_of, sources_of}
use Rattle.mkv_merge.specs.Records.{CanBeReadAgain}
use Rattle.mkv_merge.specs.declared.refusal.Refusal.{Refusal}
use Rattle.merge_laws.specs.Merge.{HasMerged, IsMerged, MergesWell, laid_out}
use Rattle.merge_laws.proofs.MergeLemmas.{run-merged}
use Rattle.mkv_propedit.specs.Recover.{DiskWorld}
use Rattle.remerge_laws.specs.MergedAgain.{MergesAgain, OutputsAreWrittenAgain, WhereMergedAgain}
use Rattle.remerge_laws.specs.Plain.{merge_again}
use Rattle.mkv_run.specs.Ends.{Ends}
use Rattle.mkv_run.specs.Run.{LeavesReadable, MergesReadable, MergesReadableIn, verdict_after, verdict_in}
use Rattle.mkv_run.specs.RunSeen.{RunSeen}

-- The words of a command line are valid UTF-8.
texts-utf8 : (words : List (String Global)) → All IsUtf8 (texts words)
texts-utf8 words = All-map IsUtf8 string_bytes words (λ k d below. IsUtf8-string_bytes (get_or words k d))

-- A run with its result, except a refusal, has written the merge that was asked for.
has-merged : (old new : Seen) (disk : Option DiskWorld) (words : List (List ℕ)) (s : Status) → s ≢ status.Refused → All IsUtf8 words → MergesReadableIn old.names words (Ok s) → IfVisible (verdict_in old.names disk words) (λ v. (s ≡ v.status) × IsDone old new v) → HasMerged old.names words new.names
has-merged old new disk words s other utf8 readable reached = λ world told holds asked is.
    let at = reached (merge_verdict world asked) (ap₂ (λ (n : Names) (c : Result Command Usage). verdict_after n disk c) told is) in
    run-merged old new words asked world s utf8 told holds is (have world asked told is) other at.0 at.1
  where
    -- The written output can be read again.
    have : (world : List ℕ → Option (List ℕ)) (asked : MergeWords) → old.names ≡ Some world → command words ≡ Ok (Merge asked) → IfOk (sources_of world asked) (CanBeReadAgain asked)
    have world asked told is =
        let P : Result Command Usage → Type 0 = λ c. IfOk c (λ (each : Command). MergesReadable old.names each (Ok s)) in
        let merges : MergesReadable old.names (Merge asked) (Ok s) = subst P is readable in
        merges world told

-- A successful run has written the merge.
pub merges-well : (old new : RunSeen) (disk : Option DiskWorld) (words : List (String Global)) (s : Status) → LeavesReadable old.seen.names (texts words) s → IfVisible (verdict_in old.seen.names disk (texts words)) (Ends old new s) → MergesWell old.seen.names (texts words) new.seen.names s
merges-well old new disk words status.Done readable told = has-merged old.seen new.seen disk (texts words) status.Done (λ same. cc) (texts-utf8 words) readable told
merges-well old new disk words status.Warned readable told = has-merged old.seen new.seen disk (texts words) status.Warned (λ same. cc) (texts-utf8 words) readable told
merges-well old new disk words status.Refused readable told = tt
merges-well old new disk words status.NoMemory readable told = tt
merges-well old new disk words status.Outside readable told = tt

-- ---- the output of a merge, merged again

one-source : (found : Result (List Source) Refusal) (sources others : List Source) → found ≡ Ok sources → found ≡ Ok others → sources ≡ others
one-source found sources others one other =
    let same : Ok sources ≡ Ok others = sym one ∙ other in
    cc

module _ (again : OutputsAreWrittenAgain) (old new : RunSeen) (disk : Option DiskWorld) (words : List (String Global)) where
  -- The run can't end with another status than Done, the status of its result.
  other-ends : (s : Status) → s ≢ status.Done → IfVisible (verdict_in old.seen.names disk (texts words)) (λ v. (s ≡ v.status) × IsDone old.seen new.seen v)
      → WhereMergedAgain old.seen.names (texts words) (λ world out bytes. ⊥)
  other-ends s other reached = λ world told octets duration out name bytes asked begun output within.
      let verdict = reached (merge_verdict world (merge_again duration out name)) (ap₂ (λ (n : Names) (c : Result Command Usage). verdict_after n disk c) told asked) in
      other (verdict.0 ∙ (again world duration out name bytes begun output within).done)

  -- A run that merges such an output by itself, without options, writes the same bytes and doesn't warn.
  pub merges-again : (s : Status) → MergesWell old.seen.names (texts words) new.seen.names s → IfVisible (verdict_in old.seen.names disk (texts words)) (Ends old new s)
      → MergesAgain old.seen.names (texts words) new.seen.names s
  merges-again status.Done well reached = λ world told octets duration out name bytes asked begun output within.
      let written = again world duration out name bytes begun output within in
      let merged : IsMerged world (merge_again duration out name) new.seen.names = well world told octets (merge_again duration out name) asked in
      let same = one-source (sources_of world (merge_again duration out name)) merged.sources written.sources merged.taken written.taken in
      merged.written ∙ ap (with_outputs (Some world)) (ap (λ (sources : List Source). map laid_out (outputs_of (merge_again duration out name) sources)) same ∙ written.outputs)
  merges-again status.Warned well reached = other-ends status.Warned (λ same. cc) reached
  merges-again status.Refused well reached = other-ends status.Refused (λ same. cc) reached
  merges-again status.NoMemory well reached = tt
  merges-again status.Outside well reached = tt

-- A program whose exit status is 0 or 1 was successful.
pub code-merged : (old new : Names) (words : List (List ℕ)) (s : Status) (code : ℕ) → code ≡ code_of s → code < 2 → MergesWell old words new s → HasMerged old words new
code-merged old new words status.Done code is below merged = merged
code-merged old new words status.Warned code is below merged = merged
code-merged old new words status.Refused code is below merged = absurd (omega arith)
code-merged old new words status.NoMemory code is below merged = absurd (omega arith)
code-merged old new words status.Outside code is below merged = absurd (omega arith)
