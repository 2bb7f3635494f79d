-- What a run left of a merge is the output of a merge.
use Rattle.std.proofs.Common.{◌≡◌, ◌∙◌, ℕ, List, [], ◌∷◌, map, Option, Some, Result, IfOk, refl, sym, ap, subst}
use Rattle.mkv_io.specs.Names.{changed_at, with_content}
use Rattle.mkv_io.proofs.NamesLemmas.{changed_at-same}
use Rattle.mkv_outputs.specs.Outputs.{with_outputs}
use Rattle.output_model.specs.Document.{layout}
use Rattle.remux_plan.specs.Parts.{PlannedOutput}
use Rattle.merge_laws.specs.Merge.{laid_out}
use Rattle.merge_plan.specs.Plan.{Source}
use Rattle.mkv_merge.specs.declared.refusal.Refusal.{Refusal}
use Rattle.remerge_laws.specs.AsRead.{EndsAfterStart}
use Rattle.remerge_laws.specs.MergedAgain.{MergedFilesAreOutputs}
use Rattle.remerge_laws.specs.Whole.{WholeMergesHaveOneDocument, whole_document}

-- the content of a name that got `bytes`
content-written : (world after : List ℕ → Option (List ℕ)) (name bytes : List ℕ) → Some after ≡ with_content (Some world) name bytes → after name ≡ Some bytes
content-written world after name bytes is =
    let same : after ≡ changed_at name (λ _. Some bytes) world = cc in
    ap (λ (w : List ℕ → Option (List ℕ)). w name) same ∙ changed_at-same world name (λ _. Some bytes)

pub files-are-outputs : WholeMergesHaveOneDocument → MergedFilesAreOutputs
files-are-outputs one world after line words bytes octets utf8 asked usual merged later is =
    let outputs = one words merged.sources usual.split usual.uuids in
    let content : List ℕ = layout (whole_document words merged.sources) in
    let there = content-written world after words.output content (merged.written ∙ ap (λ (os : List PlannedOutput). with_outputs (Some world) (map laid_out os)) outputs) in
    let some : Some bytes ≡ Some content = sym is ∙ there in
    let same : bytes ≡ content = cc in
    record {
      world = world;
      octets = octets;
      line = line;
      utf8 = utf8;
      words = words;
      asked = asked;
      usual = usual;
      lasting = refl;
      sources = merged.sources;
      taken = merged.taken;
      records = merged.records;
      later = subst (λ (found : Result (List Source) Refusal). IfOk found (λ (sources : List Source). EndsAfterStart (whole_document words sources))) merged.taken later;
      written = ap (λ (os : List PlannedOutput). map (λ (o : PlannedOutput). layout o.document) os) outputs ∙ ap (λ (content : List ℕ). content ∷ []) (sym same);
    }
