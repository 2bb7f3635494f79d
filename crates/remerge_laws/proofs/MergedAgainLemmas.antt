-- The output of a merge is written again as it was.
use Rattle.std.proofs.Common.{◌≡◌, ℕ, Bool, List, [], ◌∷◌, map, Option, refl, sym, ap, subst, ◌∙◌}
use Rattle.output_model.specs.Document.{Document, layout}
use Rattle.remux_plan.specs.Parts.{PlannedOutput}
use Rattle.requests.specs.declared.merge.MergeWords.{MergeWords}
use Rattle.merge_plan.specs.Plan.{Source}
use Rattle.mkv_args.specs.declared.command.Command.TheVariants.{Merge}
use Rattle.mkv_args.proofs.SoundLemmas.{command-sound}
use Rattle.mkv_args.proofs.TextLemmas.{asked-texts}
use Rattle.mkv_merge.specs.Merge.{outputs_of}
use Rattle.merge_laws.specs.Laws.{SourcesAreRead}
use Rattle.remerge_laws.specs.AgainSources.{CanBegin, MergeIsDone, OutputsAreSources}
use Rattle.remerge_laws.specs.Limits.{IsWithinLimits}
use Rattle.remerge_laws.specs.MergedAgain.{IsWrittenAgain, OutputsAreWrittenAgain}
use Rattle.remerge_laws.specs.AsRead.{as_read}
use Rattle.remerge_laws.specs.Plain.{merge_again}
use Rattle.remerge_laws.specs.PlainSources.{SourcesArePlain}
use Rattle.remerge_laws.specs.Repeat.{IsRepeated, IsDefault, OutputsAreRepeated, source_again}
use Rattle.remerge_laws.specs.Whole.{whole_document}
use Rattle.remerge_laws.proofs.AsReadLemmas.{layout-told, master-told}
use Rattle.remerge_laws.proofs.WholeLemmas.{one-document}

-- The one output of a merge that isn't split has the bytes of its document.
one-layout : (words : MergeWords) (sources : List Source) (bytes : List ℕ) → IsDefault words → map (λ (o : PlannedOutput). layout o.document) (outputs_of words sources) ≡ bytes ∷ []
    → layout (whole_document words sources) ≡ bytes
one-layout words sources bytes usual written =
    let is = ap (map (λ (o : PlannedOutput). layout o.document)) (one-document words sources usual.split usual.uuids) in
    let same : layout (whole_document words sources) ∷ [] ≡ bytes ∷ [] = sym is ∙ written in
    cc

module _ (sources_read : SourcesAreRead) (sources_plain : SourcesArePlain) (outputs_repeated : OutputsAreRepeated) (outputs_sources : OutputsAreSources) (merge_done : MergeIsDone) where
  -- A repeated document is written again.
  repeated-written : (world : List ℕ → Option (List ℕ)) (duration : Bool) (out name : List ℕ) (d : Document) → CanBegin world (merge_again duration out name) (layout d)
      → (r : _) × IsRepeated duration out name d r → IsWrittenAgain world duration out name (layout d)
  repeated-written world duration out name d begun again =
      let r = again.0 in
      let is = again.1 in
      let taken = outputs_sources world duration out name d r begun is.outline is.read is.usable is.planned in
      record {
        sources = source_again name d r ∷ [];
        taken = taken;
        outputs = is.outputs;
        done = merge_done world duration out name (source_again name d r) taken is.undamaged;
      }

  pub written-again : OutputsAreWrittenAgain
  written-again world duration out name bytes begun output within =
      let words : MergeWords = output.words in
      let sources : List Source = output.sources in
      let w : Document = whole_document words sources in
      let d : Document = as_read w in
      let written : layout w ≡ bytes = one-layout words sources bytes output.usual output.written in
      let same : layout d ≡ bytes = layout-told w (master-told w.front.info w.front.lasting refl) output.later ∙ written in
      let sound = command-sound output.line (Merge words) output.asked in
      let texts = asked-texts output.line words output.utf8 output.asked in
      let are = sources_read output.world words sources output.octets sound texts output.taken in
      let plain = sources_plain output.world output.line words sources output.octets output.utf8 output.asked output.usual output.taken in
      let begun_too = subst (λ asked. CanBegin world (merge_again asked out name) bytes) (sym output.lasting) begun in
      subst (λ asked. IsWrittenAgain world asked out name bytes) output.lasting
      (subst (IsWrittenAgain world words.duration out name) same
      (repeated-written world words.duration out name d (subst (CanBegin world (merge_again words.duration out name)) (sym same) begun_too)
      (outputs_repeated words sources out name output.usual sound texts are output.records plain output.later (subst IsWithinLimits (sym written) within))))
