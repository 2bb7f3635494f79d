-- A merge ends with its result.
use Rattle.std.proofs.Common.{◌≡◌, ℕ, Bool, ◌||◌, All, List, ◌++◌, length, map, Option, Some, Result, Ok, Err, IfOk, inl, refl, sym, ◌∙◌, ap, ap₂, subst}
use Rattle.std.specs.List.{enumerate_from, flat_map}
use Rattle.std.proofs.lemmas.List.{length-map}
use mathlib.Core.List.{map-map}
use Rattle.mkv_io.specs.Lines.{with_lines}
use Rattle.mkv_io.specs.LiveFiles.{LiveFiles}
use Rattle.mkv_io.specs.Names.{Names}
use Rattle.mkv_outputs.specs.Drafts.{AreWrittenInOrder}
use Rattle.mkv_outputs.specs.Drafts.{outputs_of as outputs_of_drafts}
use Rattle.mkv_outputs.specs.Outputs.{with_outputs}
use Rattle.remux_plan.specs.Parts.{PlannedOutput, outputs_in}
use Rattle.remux_plan.specs.Summary.{IsSummary, count_to, damages_of, written_of}
use Rattle.remux_plan.specs.declared.plan.MergePlan.{MergePlan}
use Rattle.remux_plan.specs.declared.plan.PlannedLane.{PlannedLane}
use Rattle.remux_plan.specs.declared.summary.Summary.{Summary}
use Rattle.remux_plan.specs.declared.summary.Written.{Written}
use Rattle.remuxer.specs.Output.{IsShort, WritesAll, drafts_of}
use Rattle.requests.specs.declared.merge.MergeWords.{MergeWords}
use Rattle.merge_inputs.specs.Input.{InputRead}
use Rattle.merge_inputs.specs.declared.input.Input.{Input}
use Rattle.merge_plan.specs.Front.{reads_of}
use Rattle.merge_plan.specs.Plan.{Source}
use Rattle.mkv_lines.specs.Line.{wrote_blocks_line}
use Rattle.mkv_lines.specs.Said.{ReportLines, Says, SaysPart}
use Rattle.mkv_lines.specs.Seen.{Seen}
use Rattle.mkv_lines.specs.Verdict.{Reaches, in_turn}
use Rattle.mkv_lines.specs.declared.status.Status.{Status}
use Rattle.mkv_lines.specs.declared.status.CommandEnd.{CommandEnd}
use Rattle.mkv_lines.proofs.SaidLemmas.{SaysPart-all}
use Rattle.mkv_lines.proofs.VerdictLemmas.{Leaves-same, Reaches-behind}
use Rattle.mkv_merge.specs.Merge.{has_absent, has_damage, has_other_count, lines_before, lines_behind, merged_verdict, output_line, outputs_of, warned_if, uuid_lines, warnings}
use Rattle.mkv_merge.specs.Prepared.{reads_in}
use Rattle.mkv_merge.specs.Records.{AreShort}
use Rattle.mkv_merge.specs.Told.{is_warned, warnings_from}
use Rattle.mkv_merge.proofs.OutputsLemmas.{outputs-are}
use Rattle.mkv_merge.proofs.SummaryLemmas.{Tells, damages-are, past-damages, some-told, warnings-told}
use Rattle.mkv_merge.proofs.WritingLemmas.{IsMergeOf, lanes-for, reads-are}

-- ---- the summary describes the sources

pub tells-is : (f : LiveFiles) (p : MergePlan) (s : Summary) → IsSummary f p s → Tells (damages_of f p.lanes) (count_to (flat_map (λ (l : PlannedLane). l.inputs) p.lanes)) s
tells-is f p s is = record { damages = is.damages; more = is.more; past = past-damages f p.lanes }

-- The summary counts the outputs of the sources.
count-told : (f : LiveFiles) (words : MergeWords) (inputs : List Input) (p : MergePlan) (sources : List Source) (s : Summary) → IsMergeOf f words inputs p sources → IsSummary f p s → length s.outputs ≡ length (outputs_of words sources)
count-told f words inputs p sources s is sums = ap (λ (ws : List Written). length ws) (sums.outputs ∙ ap (map written_of) (outputs-are f words inputs p sources is)) ∙ length-map (outputs_of words sources) written_of

behind-told : (f : LiveFiles) (words : MergeWords) (inputs : List Input) (p : MergePlan) (sources : List Source) (s : Summary) → IsMergeOf f words inputs p sources → IsSummary f p s
    → map (λ (w : Written). wrote_blocks_line w.name w.blocks) s.outputs ++ warnings_from s 0 words.files ++ uuid_lines words (length s.outputs) ≡ lines_behind words sources
behind-told f words inputs p sources s is sums =
    ap (λ (ws : List Written). map (λ (w : Written). wrote_blocks_line w.name w.blocks) ws ++ warnings_from s 0 words.files ++ uuid_lines words (length s.outputs)) (sums.outputs ∙ ap (map written_of) (outputs-are f words inputs p sources is))
    ∙ ap (λ (lines : List (List ℕ)). lines ++ warnings_from s 0 words.files ++ uuid_lines words (length s.outputs)) (map-map (λ (w : Written). wrote_blocks_line w.name w.blocks) written_of (outputs_of words sources))
    ∙ ap (λ (lines : List (List ℕ)). map output_line (outputs_of words sources) ++ lines ++ uuid_lines words (length s.outputs))
    (warnings-told (damages_of f p.lanes) _ s words.files words sources (tells-is f p s sums) (λ k. damages-are f words sources p.lanes k (lanes-for f words inputs p sources is)))
    ∙ ap (λ (n : ℕ). map output_line (outputs_of words sources) ++ flat_map (warnings words sources) (enumerate_from 0 words.files) ++ uuid_lines words n) (count-told f words inputs p sources s is sums)

warned-told : (f : LiveFiles) (words : MergeWords) (inputs : List Input) (p : MergePlan) (sources : List Source) (s : Summary) → IsMergeOf f words inputs p sources → IsSummary f p s → (absent : Bool) → is_warned absent s ≡ (absent || has_damage words sources)
warned-told f words inputs p sources s is sums absent =
    ap (λ (some : Bool). absent || some)
    (some-told (damages_of f p.lanes) _ s words sources (tells-is f p s sums) (λ k. damages-are f words sources p.lanes k (lanes-for f words inputs p sources is)))

-- ---- result

-- The warning of an absent track couldn't be printed.
pub merge-begun : (old new : Seen) (why : CommandEnd) (f : LiveFiles) (words : MergeWords) (inputs : List Input) (p : MergePlan) (sources : List Source) → IsMergeOf f words inputs p sources → SaysPart old.lines new.lines (lines_before words (reads_in inputs)) → new.names ≡ old.names → Reaches old new (Err why) (merged_verdict words sources)
merge-begun old new why f words inputs p sources is part names =
    inl (
      subst (λ (rs : List InputRead). SaysPart old.lines new.lines (lines_before words rs)) (sym (reads-are f words inputs p sources is)) part,
      Leaves-same old.names new.names (in_turn (drafts_of (outputs_of words sources))) names,
    )

-- All absent tracks were warned of, and an output couldn't be written.
pub merge-left : (old new : Seen) (why : CommandEnd) (f : LiveFiles) (words : MergeWords) (inputs : List Input) (p : MergePlan) (sources : List Source) → IsMergeOf f words inputs p sources → new.lines ≡ with_lines old.lines (lines_before words (reads_in inputs)) → AreWrittenInOrder old.names new.names (drafts_of (outputs_in f p)) → Reaches old new (Err why) (merged_verdict words sources)
merge-left old new why f words inputs p sources is said stands =
    inl (
      SaysPart-all old.lines new.lines (lines_before words (reads_of sources)) (said ∙ ap (λ (rs : List InputRead). with_lines old.lines (lines_before words rs)) (sym (reads-are f words inputs p sources is))),
      subst (λ (os : List PlannedOutput). AreWrittenInOrder old.names new.names (drafts_of os)) (outputs-are f words inputs p sources is) stands,
    )

-- The outputs are complete.
all-whole : (old new : Names) (outputs : List PlannedOutput) → WritesAll old new outputs → new ≡ with_outputs old (outputs_of_drafts (drafts_of outputs))
all-whole old new outputs writes = writes.names ∙ sym (ap (with_outputs old) writes.become)

-- No output is longer than a file may be.
pub outputs-short : (old new : Names) (world : List ℕ → Option (List ℕ)) (r : Result Status CommandEnd) (f : LiveFiles) (words : MergeWords) (inputs : List Input) (p : MergePlan) (sources : List Source) → IsMergeOf f words inputs p sources → old ≡ Some world → WritesAll old new (outputs_in f p) → IfOk r (λ (s : Status). AreShort words sources)
outputs-short old new world r f words inputs p sources is told writes = by_end r
  where
    short : AreShort words sources
    short = subst (All (λ (o : PlannedOutput). IsShort o.document)) (outputs-are f words inputs p sources is) (writes.short world told)

    by_end : (r : Result Status CommandEnd) → IfOk r (λ (s : Status). AreShort words sources)
    by_end (Ok s) = short
    by_end (Err why) = tt

-- The remaining lines are printed.
pub merge-told : (old new : Seen) (mid : ReportLines) (r : Result Status CommandEnd) (f : LiveFiles) (words : MergeWords) (inputs : List Input) (p : MergePlan) (sources : List Source) (s : Summary) (absent : Bool) → IsMergeOf f words inputs p sources → IsSummary f p s
    → absent ≡ has_absent words (reads_in inputs) → mid ≡ with_lines old.lines (lines_before words (reads_in inputs))
    → Says mid new.lines (map (λ (w : Written). wrote_blocks_line w.name w.blocks) s.outputs ++ warnings_from s 0 words.files ++ uuid_lines words (length s.outputs)) r → IfOk r (λ (status : Status). status ≡ warned_if (is_warned absent s || has_other_count words (length s.outputs)))
    → WritesAll old.names new.names (outputs_in f p) → Reaches old new r (merged_verdict words sources)
merge-told old new mid r f words inputs p sources s absent is sums missing before says status writes =
    Reaches-behind old new mid r (merged_verdict words sources) (lines_behind words sources) refl first
    (subst (λ (lines : List (List ℕ)). Says mid new.lines lines r) (behind-told f words inputs p sources s is sums) says)
    (subst (λ (some : Bool). IfOk r (λ (status : Status). status ≡ warned_if some)) warned status)
    whole
  where
    reads : reads_in inputs ≡ reads_of sources
    reads = sym (reads-are f words inputs p sources is)

    first : mid ≡ with_lines old.lines (lines_before words (reads_of sources))
    first = before ∙ ap (λ (rs : List InputRead). with_lines old.lines (lines_before words rs)) reads

    whole : new.names ≡ with_outputs old.names (outputs_of_drafts (drafts_of (outputs_of words sources)))
    whole =
        all-whole old.names new.names (outputs_in f p) writes
        ∙ ap (λ (os : List PlannedOutput). with_outputs old.names (outputs_of_drafts (drafts_of os))) (outputs-are f words inputs p sources is)

    warned : (is_warned absent s || has_other_count words (length s.outputs)) ≡ (has_absent words (reads_of sources) || has_damage words sources || has_other_count words (length (outputs_of words sources)))
    warned = ap₂ (λ (some : Bool) (n : ℕ). some || has_other_count words n) (warned-told f words inputs p sources s is sums absent ∙ ap (λ (some : Bool). some || has_damage words sources) (missing ∙ ap (has_absent words) reads)) (count-told f words inputs p sources s is sums)
