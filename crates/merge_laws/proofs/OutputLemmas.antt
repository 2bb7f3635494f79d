-- The outputs of a merge: facts about each, by its part.
use Rattle.std.proofs.Common.{◌≡◌, ℕ, ◌+◌, ◌==◌, Bool, true, false, if◌then◌else◌, List, [], ◌∷◌, length, map, Option, None, is_some, refl, sym, ap, subst, ◌∙◌}
use Rattle.std.specs.List.{All, enumerate_from}
use Rattle.std.proofs.lemmas.List.Elements.{All-nil, All-cons, All-head, All-map, All-tail, All-weaker}
use Rattle.tree_format.specs.Node.{Node}
use Rattle.output_model.specs.Cued.{document_of}
use Rattle.output_model.specs.OutputBlock.{OutputBlock}
use Rattle.output_laws.proofs.MergedClusterLemmas.{IsOf, merged-of}
use Rattle.splitter.specs.Sections.{Part}
use Rattle.splitter.specs.Words.{size_of, spec_of}
use Rattle.splitter.proofs.SectionLemmas.{whole-part}
use Rattle.remux_plan.specs.Parts.{PlannedOutput, name_of}
use Rattle.remux_plan.specs.Uuids.{uuids_at, with_uuids}
use Rattle.requests.specs.declared.split.SplitWords.{SplitWords}
use Rattle.requests.specs.declared.merge.MergeWords.{MergeWords}
use Rattle.requests.specs.Sound.{IsSoundMerge}
use Rattle.merge_plan.specs.Front.{attachments_of, front_of, reads_of}
use Rattle.merge_plan.specs.Plan.{Source, limits_of, rules_given, starts_in}
use Rattle.merge_plan.specs.Records.{chapters_of, tags_of}
use Rattle.mkv_merge.specs.Merge.{blocks_of, chapters_in, output_at, outputs_of, parts_of, split_of}
use Rattle.mkv_merge.specs.Read.{is_split}
use Rattle.mkv_merge.specs.Records.{HaveRecords, IsFilled}
use Rattle.merge_laws.specs.Laws.{WholeMergesAreOne, name_and_blocks}
use Rattle.merge_laws.specs.Merge.{ArePartsOf, lanes_selected}
use Rattle.merge_laws.specs.Sources.{AreSources}
use Rattle.merge_laws.proofs.DocumentLemmas.{document_with}
use Rattle.merge_laws.proofs.LaneLemmas.{lanes-sound}
use Rattle.merge_laws.proofs.PartLemmas.{blocks_by_part, parts-cut, parts-sound}

-- ---- a merge that isn't split

-- the part from the start without an end
abbrev whole_of : MergeWords → List Source → Part
whole_of words sources = record { start = 0; end = None; blocks = blocks_of words sources }

-- The part has all blocks unchanged.
abbrev HasAll : MergeWords → List Source → Part → Type 0
HasAll words sources part = part.blocks ≡ blocks_of words sources

one-part : (words : MergeWords) (sources : List Source) → words.split ≡ None → parts_of words sources ≡ whole_of words sources ∷ []
one-part words sources whole =
    whole-part (split_of words sources) (blocks_of words sources) (ap (λ (o : Option SplitWords). spec_of o (starts_in (chapters_of (reads_of sources)))) whole) (ap size_of whole)

pub one-output : WholeMergesAreOne
one-output words sources whole =
    ap (λ (ps : List Part). map name_and_blocks (map (output_at words sources) (enumerate_from 1 ps))) (one-part words sources whole)
    ∙ ap (λ (o : Option SplitWords). (name_of (is_some o) words.output 1, blocks_of words sources) ∷ []) whole

-- ---- all together

-- the blocks of outputs, one list for each output
abbrev blocks_by_output : List PlannedOutput → List (List OutputBlock)
blocks_by_output outputs = map (λ (o : PlannedOutput). o.blocks) outputs

blocks-numbered : (words : MergeWords) (sources : List Source) (number : ℕ) (ps : List Part) → blocks_by_output (map (output_at words sources) (enumerate_from number ps)) ≡ blocks_by_part ps
blocks-numbered words sources number [] = refl
blocks-numbered words sources number (p ∷ ps) = ap (λ (more : List (List OutputBlock)). p.blocks ∷ more) (blocks-numbered words sources (number + 1) ps)

-- The outputs are the parts of the merged list.
pub outputs-parts : (words : MergeWords) (sources : List Source) → ArePartsOf (split_of words sources) (blocks_of words sources) (blocks_by_output (outputs_of words sources))
outputs-parts words sources =
    subst (ArePartsOf (split_of words sources) (blocks_of words sources)) (sym (blocks-numbered words sources 1 (parts_of words sources)))
    (parts-cut (split_of words sources) (blocks_of words sources))

-- ---- each output

-- the output of the part `number`, with the attached files `files`
abbrev pub output_with : MergeWords → List Source → ℕ → List Node → Part → PlannedOutput
output_with words sources number files part = record { name = name_of (is_split words) words.output number; blocks = part.blocks; document = document_with words sources number files part }

-- The part has valid blocks of the selected output tracks, and all of them if the merge isn't split.
pub record IsPartOf (words : MergeWords) (sources : List Source) (part : Part) : Type 0 where
  pub blocks : All (IsOf (length (lanes_selected words sources))) part.blocks
  pub whole : words.split ≡ None → HasAll words sources part

module _ (words : MergeWords) (sources : List Source) (sound : IsSoundMerge words) (are : AreSources words sources) where
  parts-are : All (IsPartOf words sources) (parts_of words sources)
  parts-are = λ k d below. record {
    blocks = parts-sound (length (lanes_selected words sources)) (split_of words sources) (blocks_of words sources) (merged-of (lanes_selected words sources) (lanes-sound words sources sound.scale.least are.each)) k d below;
    whole = λ whole. subst (All (HasAll words sources)) (sym (one-part words sources whole)) (All-cons (HasAll words sources) (whole_of words sources) [] refl (All-nil (HasAll words sources))) k d below;
  }

  numbered-are : (number : ℕ) (ps : List Part) → All (IsPartOf words sources) ps → All (λ (each : ℕ × Part). IsPartOf words sources each.1) (enumerate_from number ps)
  numbered-are number [] each = All-nil (λ (one : ℕ × Part). IsPartOf words sources one.1)
  numbered-are number (part ∷ ps) each =
      All-cons (λ (one : ℕ × Part). IsPartOf words sources one.1) (number, part) (enumerate_from (number + 1) ps) (All-head (IsPartOf words sources) part ps each)
      (numbered-are (number + 1) ps (All-tail (IsPartOf words sources) part ps each))

  -- A fact about the output of each part, with any attached files, holds for all outputs.
  pub outputs-hold : (P : PlannedOutput → Type 0) → HaveRecords words sources
      → ((number : ℕ) (files : List Node) (part : Part) → All IsFilled files → IsPartOf words sources part → P (output_with words sources number files part)) → All P (outputs_of words sources)
  outputs-hold P have holds =
      All-map P (output_at words sources) (enumerate_from 1 (parts_of words sources))
      (All-weaker (λ (each : ℕ × Part). IsPartOf words sources each.1) (λ (each : ℕ × Part). P (output_at words sources each)) one (enumerate_from 1 (parts_of words sources)) (numbered-are 1 (parts_of words sources) parts-are))
    where
      one : (each : ℕ × Part) → IsPartOf words sources each.1 → P (output_at words sources each)
      one each is = of (each.0 == 1)
        where
          of : (first : Bool) → P (record {
            name = name_of (is_split words) words.output each.0;
            blocks = each.1.blocks;
            document = document_of (limits_of words) (rules_given words.order (reads_of sources)) (record (front_of words sources) { info = with_uuids (uuids_at words.uuids words.link each.0) (front_of words sources).info; attachments = if first then (front_of words sources).attachments else [] }) (chapters_in words sources each.1) (tags_of words.order (reads_of sources)) each.1.blocks;
          })
          of true = holds each.0 (attachments_of sources) each.1 have.attachments is
          of false = holds each.0 [] each.1 (All-nil IsFilled) is
