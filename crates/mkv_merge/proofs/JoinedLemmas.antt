-- A merge that prints nothing.
use Rattle.std.proofs.Common.{◌≡◌, List, map, Result, Ok, Err, IfOk, sym, ◌∙◌, ap, subst}
use Rattle.mkv_io.specs.LiveFiles.{LiveFiles}
use Rattle.mkv_io.specs.Names.{Names}
use Rattle.mkv_io.specs.declared.remux_end.RemuxEnd.{RemuxEnd}
use Rattle.mkv_outputs.specs.Drafts.{AreWrittenInOrder}
use Rattle.mkv_outputs.proofs.DraftsLemmas.{AreWrittenInOrder-none}
use Rattle.requests.specs.declared.merge.MergeWords.{MergeWords}
use Rattle.merge_inputs.specs.declared.input.Input.{Input}
use Rattle.merge_plan.specs.Plan.{Source}
use Rattle.remux_plan.specs.Parts.{PlannedOutput, outputs_in}
use Rattle.remux_plan.specs.Summary.{IsSummary, damages_of, written_of}
use Rattle.remux_plan.specs.declared.plan.MergePlan.{MergePlan}
use Rattle.remux_plan.specs.declared.summary.Summary.{Summary}
use Rattle.remuxer.specs.Output.{WritesAll, WritesOutputs, drafts_of}
use Rattle.mkv_lines.specs.declared.status.CommandEnd.{CommandEnd}
use Rattle.mkv_merge.specs.Ends.{as_remuxed}
use Rattle.mkv_merge.specs.Joined.{IsSummaryOf, Merges, as_merged, outputs_found}
use Rattle.mkv_merge.specs.Prepared.{ReadsAs}
use Rattle.mkv_merge.specs.declared.refusal.MergeEnd.{MergeEnd}
use Rattle.mkv_merge.specs.declared.refusal.MergeEnd.TheVariants.{Refused as Ended, Stopped}
use Rattle.mkv_merge.specs.declared.refusal.Refusal.{Refusal}
use Rattle.mkv_merge.proofs.OutputsLemmas.{outputs-are}
use Rattle.mkv_merge.proofs.SummaryLemmas.{damages-are, some-told, warnings-told}
use Rattle.mkv_merge.proofs.VerdictLemmas.{tells-is}
use Rattle.mkv_merge.proofs.WritingLemmas.{IsMergeOf, lanes-for}

-- The summary of a plan describes its sources.
pub summary-of : (f : LiveFiles) (words : MergeWords) (inputs : List Input) (p : MergePlan) (sources : List Source) (s : Summary) → IsMergeOf f words inputs p sources → IsSummary f p s → IsSummaryOf words sources s
summary-of f words inputs p sources s is sums = record {
  outputs = sums.outputs ∙ ap (map written_of) (outputs-are f words inputs p sources is);
  warned = warnings-told (damages_of f p.lanes) _ s words.files words sources (tells-is f p s sums) (λ k. damages-are f words sources p.lanes k (lanes-for f words inputs p sources is));
  damaged = some-told (damages_of f p.lanes) _ s words sources (tells-is f p s sums) (λ k. damages-are f words sources p.lanes k (lanes-for f words inputs p sources is));
}

-- The outputs were written, or couldn't be written.
pub merges-remuxed : (old new : Names) (words : MergeWords) (found : Result (List Source) Refusal) (f : LiveFiles) (inputs : List Input) (p : MergePlan) (sources : List Source) (r : Result Summary RemuxEnd) → found ≡ Ok sources → IsMergeOf f words inputs p sources
    → IfOk r (IsSummary f p) → WritesOutputs old new (outputs_in f p) r → Merges old new words found (as_merged (as_remuxed r))
merges-remuxed old new words found f inputs p sources (Ok s) are is sums writes = record {
  sources = sources;
  are = are;
  writes = subst (WritesAll old new) (outputs-are f words inputs p sources is) writes;
  summary = summary-of f words inputs p sources s is sums;
}
merges-remuxed old new words found f inputs p sources (Err end) are is sums stands =
    subst (λ (r : Result (List Source) Refusal). AreWrittenInOrder old new (drafts_of (outputs_found words r))) (sym are)
    (subst (λ (os : List PlannedOutput). AreWrittenInOrder old new (drafts_of os)) (outputs-are f words inputs p sources is) stands)

-- Nothing was written before.
merges-begun : (old new : Names) (words : MergeWords) (found : Result (List Source) Refusal) (why : CommandEnd) → new ≡ old → Merges old new words found (Err why)
merges-begun old new words found why same = subst (λ (names : Names). AreWrittenInOrder old names (drafts_of (outputs_found words found))) (sym same) (AreWrittenInOrder-none old _)

-- The merge is refused or was stopped before its outputs.
pub merges-ended : (old new : Names) (words : MergeWords) (found : Result (List Source) Refusal) (end : MergeEnd) → ReadsAs {B = List Source} (λ (s : List Source). s) found (Err end) → new ≡ old → Merges old new words found (as_merged (Err end))
merges-ended old new words found (Ended why) is same = (is, same)
merges-ended old new words found (Stopped why) is same = merges-begun old new words found why same
