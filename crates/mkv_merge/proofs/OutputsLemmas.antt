-- The outputs of a plan are the outputs of its sources.
use Rattle.std.proofs.Common.{◌≡◌, ℕ, suc, ◌+◌, ◌==◌, Bool, true, false, if◌then◌else◌, List, [], ◌∷◌, map, refl, sym, ◌∙◌, ap, ap₂, arith}
use Rattle.std.specs.List.{enumerate_from}
use Rattle.mkv_io.specs.LiveFiles.{LiveFiles}
use Rattle.output_model.specs.Document.{Front}
use Rattle.output_model.specs.OutputBlock.{OutputBlock}
use Rattle.output_model.specs.Front.{front_with}
use Rattle.output_model.specs.declared.front.Front as given
use Rattle.output_model.specs.Cued.{document_of}
use Rattle.splitter.specs.Sections.{Part, Split, parts}
use Rattle.remux_plan.specs.Parts as planned
use Rattle.remux_plan.specs.Parts.{PlannedOutput, drives_by, name_of, output_in, outputs_from, outputs_in, spec_of, stretch_of}
use Rattle.remux_plan.specs.Plan.{blocks_of as planned_blocks, rules_of}
use Rattle.remux_plan.specs.Uuids.{uuids_at, with_uuids}
use Rattle.remux_plan.specs.declared.plan.MergePlan.{MergePlan}
use Rattle.requests.specs.declared.merge.MergeWords.{MergeWords}
use Rattle.merge_inputs.specs.declared.input.Input.{Input}
use Rattle.merge_plan.specs.Front.{front_of, reads_of}
use Rattle.merge_plan.specs.Plan.{Source, drives_given, rules_given, split_given}
use Rattle.merge_plan.specs.Records.{chapters_of, tags_of}
use Rattle.mkv_merge.specs.Merge.{front_at, output_at, outputs_of, parts_of, split_of}
use Rattle.mkv_merge.proofs.WritingLemmas.{IsMergeOf, blocks-are, reads-are}

-- The Elements before the Clusters of a part are the same, with or without attached files.
front-with : (f : LiveFiles) (words : MergeWords) (number : ℕ) (front : given.Front) (its : Front) (first : Bool) → front_with f front ≡ its
    → front_with f (record front { info = with_uuids (uuids_at words.uuids words.link number) front.info; attachments = if first then front.attachments else [] })
    ≡ record its { info = with_uuids (uuids_at words.uuids words.link number) its.info; attachments = if first then its.attachments else [] }
front-with f words number front its true is = ap (λ (x : Front). record x { info = with_uuids (uuids_at words.uuids words.link number) x.info }) is
front-with f words number front its false is = ap (λ (x : Front). record x { info = with_uuids (uuids_at words.uuids words.link number) x.info; attachments = [] }) is

module _ (f : LiveFiles) (words : MergeWords) (inputs : List Input) (p : MergePlan) (sources : List Source) (is : IsMergeOf f words inputs p sources) where
  split-is : planned.split_of p ≡ split_of words sources
  split-is =
      let reads = sym (reads-are f words inputs p sources is) in
      let spec = is.plan.split ∙ ap (split_given words) reads in
      let drives = is.plan.drives ∙ ap (drives_given words.order) reads in
      λ i. record { spec = spec i; size = is.plan.size i; scale = (is.plan.limits i).scale; drives = drives_by (drives i) }

  parts-are : parts (planned.split_of p) (planned_blocks f p) ≡ parts_of words sources
  parts-are = ap₂ (λ (s : Split) (blocks : List OutputBlock). parts s blocks) split-is (blocks-are f words inputs p sources is)

  -- Each part is the same output.
  output-is : (number : ℕ) (part : Part) → output_in f (spec_of p) number part ≡ output_at words sources (number, part)
  output-is number part =
      let reads = sym (reads-are f words inputs p sources is) in
      let front : front_with f (planned.front_of p.uuids p.link p.front number) ≡ front_at words sources number =
      ap₂ (λ (uuids : List ℕ) (link : Bool). front_with f (planned.front_of uuids link p.front number)) is.plan.uuids is.plan.link
      ∙ front-with f words number p.front (front_of words sources) (number == 1) (is.plan.front f is.told ∙ ap (front_of words) is.from) in
      let rules : rules_of p.lanes ≡ rules_given words.order (reads_of sources) = is.plan.rules ∙ ap (rules_given words.order) reads in
      let chapters : p.chapters ≡ chapters_of (reads_of sources) = is.plan.chapters ∙ ap chapters_of reads in
      let tags : p.tags ≡ tags_of words.order (reads_of sources) = is.plan.tags ∙ ap (tags_of words.order) reads in
      λ i. record {
        name = name_of (is.split i) (is.plan.output i) number;
        blocks = part.blocks;
        document = document_of (is.plan.limits i) (rules i) (front i) (planned.chapters_of (is.split i) (chapters i) (stretch_of (is.plan.limits i).scale part.start part.end)) (tags i) part.blocks;
      }

  outputs-from : (number : ℕ) (ps : List Part) → outputs_from f (spec_of p) number ps ≡ map (output_at words sources) (enumerate_from number ps)
  outputs-from number [] = refl
  outputs-from number (part ∷ ps) =
      ap₂ (λ (o : PlannedOutput) (os : List PlannedOutput). o ∷ os) (output-is number part)
      (outputs-from (suc number) ps ∙ ap (λ (n : ℕ). map (output_at words sources) (enumerate_from n ps)) (more number))
    where
      more : (n : ℕ) → suc n ≡ n + 1
      more n = omega arith

  pub outputs-are : outputs_in f p ≡ outputs_of words sources
  outputs-are = ap (outputs_from f (spec_of p) 1) parts-are ∙ outputs-from 1 (parts_of words sources)
