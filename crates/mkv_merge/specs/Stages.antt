-- The results of a merge at the stages of its code, if names and live files are visible to the proof. No promise to users depends on this module:
-- a lemma connects it to `Merge`.
use Rattle.std.specs.Prelude.{◌≡◌, ℕ, ◌+◌, List, [], ◌∷◌, Option, IfOk, Result, Ok, Err}
use Rattle.std.specs.Option.{option_or}
use Rattle.mkv_io.specs.Told.{IfVisible}
use Rattle.mkv_io.specs.declared.outside.FileId.{FileId}
use Rattle.mkv_io.specs.declared.files.Files as writing
use Rattle.mkv_io.specs.declared.reads.Reads.{Ghosts}
use Rattle.mkv_io.specs.declared.report.Report.{Ghosts as ReportGhosts}
use Rattle.input_files.specs.declared.text_files.TextFiles.{TextFiles}
use Rattle.requests.specs.declared.merge.MergeWords.{MergeWords}
use Rattle.merge_inputs.specs.declared.input.Input.{Input}
use Rattle.merge_plan.specs.Plan.{Source}
use Rattle.remux_plan.specs.declared.plan.MergePlan.{MergePlan}
use Rattle.mkv_lines.specs.Command.{Fulfils, seen_in}
use Rattle.mkv_io.specs.Bounds.{ReadsUpTo}
use Rattle.mkv_lines.specs.Seen.{Seen}
use Rattle.mkv_lines.specs.Verdict.{IsStopped, Reaches}
use Rattle.mkv_lines.specs.declared.status.Status.{Status}
use Rattle.mkv_lines.specs.declared.status.Status.TheVariants as status
use Rattle.mkv_lines.specs.declared.status.CommandEnd.{CommandEnd}
use Rattle.mkv_merge.specs.Attached.{attached_ids, own_ids}
use Rattle.mkv_merge.specs.Bound.{live_size, live_walked, most_looked, most_of, most_planned, most_read}
use Rattle.mkv_merge.specs.Ends.{end_as}
use Rattle.mkv_merge.specs.Merge.{merged_verdict, sources_of, sources_unless, verdict_of}
use Rattle.mkv_merge.specs.Prepared.{IfAllTold, IfBothTold, sources_from}
use Rattle.mkv_merge.specs.Read.{pending_of}
use Rattle.mkv_merge.specs.Records.{AreShort, EndsReadable}
use Rattle.mkv_merge.specs.Texts.{missing_text}
use Rattle.mkv_merge.specs.declared.refusal.MergeEnd.{MergeEnd}
use Rattle.mkv_merge.specs.declared.refusal.MergeEnd.TheVariants.{Refused, Stopped}
use Rattle.mkv_merge.specs.declared.refusal.Refusal.{Refusal}

-- ---- writing of a plan

-- `write` ended with `result`, and has the outcome of the merge `words` of `inputs`, or was stopped on the way to it. The inputs were read from the
-- live files `list`. The states are `files` and `report` before it, `files'` and `report'` after it. The contract of `write` states it. `r`, `f` and
-- `p` give the proof's view of the files and the report.
abbrev pub ReachesPlanned : {F P : Type 0} → Ghosts F → writing.Ghosts F → ReportGhosts P → F → F → P → P → MergeWords → List FileId → List Input → Result Status CommandEnd → Type 0
ReachesPlanned r f p files files' report report' words list inputs result = IfAllTold r files list (λ contents.
    Fulfils r f p files files' report report' result (merged_verdict words (sources_from contents inputs)))

-- From `old` to `new` no more bytes are read than the plan `plan` may read from the live files `list`. The contract of `write` states it. `r` gives
-- the proof's view of the files.
abbrev pub ReadsPlanned : {S : Type 0} → Ghosts S → S → S → List FileId → MergePlan → Type 0
ReadsPlanned r old new list plan = ReadsUpTo r old new (most_planned plan (live_size r old list))

-- If the merge `words` ended with a status, no output of `inputs` is longer than a file may be. They were read from the live files `list`. The
-- contract of `write` states it. `r` and `f` give the proof's view of the files. The states are `files` before the call and `files'` after it, and
-- `result` is what it returned.
abbrev pub EndsShort : {S : Type 0} → Ghosts S → writing.Ghosts S → S → MergeWords → List FileId → List Input → Result Status CommandEnd → Type 0
EndsShort r f files words list inputs result = IfVisible (f.names files) (λ world. IfAllTold r files list (λ contents.
    IfOk result (λ _. AreShort words (sources_from contents inputs))))

-- ---- a merge up to its result, before a refusal is printed

-- the refusals of a merge before its inputs are read. The causes are a missing text file in `texts` and a pending edit in `world`; all inputs exist.
-- For `MergesThere`. `words` are the options of the merge.
abbrev pub refusals_begun : (List ℕ → Option (List ℕ)) → MergeWords → TextFiles → List (Option Refusal)
refusals_begun world words texts = missing_text texts ∷ pending_of world words ∷ []

-- the first refusal of a merge before its inputs are read. The causes are a missing text file in `texts` and a pending edit in `world`; all inputs
-- exist. The contract of the function of the same name states it. `words` are the options of the merge.
abbrev pub begun_refusal : (List ℕ → Option (List ℕ)) → MergeWords → TextFiles → Option Refusal
begun_refusal world words texts = option_or (missing_text texts) (pending_of world words)

-- the end of the command `merge` whose stages ended with `result`: it prints a refusal and ends with its status. The contracts of `merge_opened` and
-- `merge_named` state its readable outputs by it.
abbrev pub as_command : Result Status MergeEnd → Result Status CommandEnd
as_command result = end_as (λ s. s) (λ why. status.Refused) result

-- A merge with the sources or the refusal `found` changed files and report from `old` to `new`. It has its outcome, or was stopped on the way. Or
-- `found` is its refusal, and nothing was printed or written. Used by `MergesTo`. `words` are the options of the merge.
abbrev pub Leads : Seen → Seen → MergeWords → Result (List Source) Refusal → Result Status MergeEnd → Type 0
Leads old new words found (Ok s) = Reaches old new (Ok s) (verdict_of words found)
Leads old new words found (Err (Refused why)) = (found ≡ Err why) × (new.lines ≡ old.lines) × (new.names ≡ old.names)
Leads old new words found (Err (Stopped why)) = IsStopped old new (verdict_of words found)

-- `Leads` holds for the files and the report before (`files`, `report`) and after the merge (`files'`, `report'`). The outputs can be read again, and
-- at most `most` bytes were read. Used by `MergesThere` and `MergesNamed`.
pub record MergesTo {F P : Type 0} (r : Ghosts F) (f : writing.Ghosts F) (p : ReportGhosts P) (files files' : F) (report report' : P) (words : MergeWords) (found : Result (List Source) Refusal) (most : ℕ) (result : Result Status MergeEnd) : Type 0 where
  pub verdict : Leads (seen_in r f p files report) (seen_in r f p files' report') words found result
  pub readable : EndsReadable words found (as_command result)
  pub octets : ReadsUpTo r files files' most

-- The merge `words` of the live files `list` with the text files `texts` ended as the definitions expect, or was stopped on the way. Its outputs can
-- be read again, and it reads no more bytes than `most_of` and `most_looked` give. The contract of `merge_opened` states it. `r`, `f` and `p` give
-- the proof's view of the files and the report, which are `files` and `report` before the call and `files'` and `report'` after it. `result` is what
-- it returned.
abbrev pub MergesThere : {F P : Type 0} → Ghosts F → writing.Ghosts F → ReportGhosts P → F → F → P → P → MergeWords → TextFiles → List FileId → Result Status MergeEnd → Type 0
MergesThere r f p files files' report report' words texts list result = IfVisible (f.names files) (λ world.
    IfBothTold r files (own_ids words list) (attached_ids words list) (λ contents attached.
    let found = sources_unless (refusals_begun world words texts) words texts contents attached in
    let most = most_of found (live_size r files list) (live_walked r files words.files (own_ids words list)) + most_looked words in
    MergesTo r f p files files' report report' words found most result))

-- The merge of the files that `words` names ended with its result or its refusal, or was stopped on the way. Its outputs can be read again, and it
-- reads no more bytes than `most_read` gives. The contract of `merge_named` states it. `r`, `f` and `p` give the proof's view of the files and the
-- report, which are `files` and `report` before the call and `files'` and `report'` after it. `result` is what it returned.
abbrev pub MergesNamed : {F P : Type 0} → Ghosts F → writing.Ghosts F → ReportGhosts P → F → F → P → P → MergeWords → Result Status MergeEnd → Type 0
MergesNamed r f p files files' report report' words result = IfVisible (f.names files) (λ world.
    MergesTo r f p files files' report report' words (sources_of world words) (most_read world words) result)
