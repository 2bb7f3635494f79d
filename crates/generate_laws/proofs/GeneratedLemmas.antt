-- `generate` succeeds.
use Rattle.std.specs.List.{All}
use Rattle.std.proofs.Common.{◌≡◌, ◌≤◌, ℕ, ◌||◌, Bool, List, [], ◌∷◌, ◌++◌, length, map, Result, Ok, sym, ap, ap₂, subst, ◌∙◌}
use Rattle.std.proofs.lemmas.List.Elements.{All-cons, All-nil}
use Rattle.mkv_io.specs.Results.{and_then}
use Rattle.remux_plan.specs.Parts.{PlannedOutput}
use Rattle.remux_plan.specs.Summary.{written_of}
use Rattle.merge_plan.specs.Plan.{Source}
use Rattle.mkv_lines.specs.declared.status.Status.TheVariants.{Done}
use Rattle.mkv_merge.specs.Merge.{warned_if}
use Rattle.mkv_merge.specs.declared.refusal.Refusal.{Refusal}
use Rattle.mkv_generate.specs.declared.blocks.MediaKind.TheVariants.{Pictures, Sounds}
use Rattle.mkv_generate.specs.declared.names.Names.{Names}
use Rattle.mkv_generate.specs.Generate.{MergeMade, both_words, comes_to, first_written, line_for, made_of, merge_of, names_of, parts_words, two_files, verdict_of, with_both, with_parts}
use Rattle.merge_laws.specs.Laws.{name_and_blocks}
use Rattle.generate_laws.specs.Generated.{GenerateSucceeds, HoldsItsBlocks}
use Rattle.generate_laws.proofs.FileLemmas.{files-hold}
use Rattle.generate_laws.proofs.MergeLemmas.{both-output, both-sources, both-undamaged, both-unwarned, both_file, sources}
use Rattle.generate_laws.proofs.NameLemmas.{both-apart, parts-apart}
use Rattle.generate_laws.proofs.SplitLemmas.{both-holds, part_sources, parts-cut, parts-hold, parts-sources, parts-undamaged, parts-unwarned}

module _ (n : ℕ) (prefix : List ℕ) (few : n ≤ 100000) where
  abbrev names : Names
  names = names_of prefix

  abbrev files : List PlannedOutput
  files = two_files n names

  abbrev both : MergeMade
  both = made_of (both_words names) (sources n few names)

  abbrev parts : MergeMade
  parts = made_of (parts_words names) (part_sources n few names)

  merged-so : merge_of (both_words names) files ≡ Ok both
  merged-so = ap (λ (r : Result (List Source) Refusal). and_then r (λ (s : List Source). Ok (made_of (both_words names) s))) (both-sources n few names (both-apart prefix))

  split-so : merge_of (parts_words names) both.outputs ≡ Ok parts
  split-so =
      ap (merge_of (parts_words names)) (both-output n few names)
      ∙ ap (λ (r : Result (List Source) Refusal). and_then r (λ (s : List Source). Ok (made_of (parts_words names) s))) (parts-sources n few names (parts-apart prefix))

  one-holds : All HoldsItsBlocks both.outputs
  one-holds =
      subst (All HoldsItsBlocks) (sym (both-output n few names))
      (All-cons HoldsItsBlocks (both_file n few names) [] (both-holds n few names) (All-nil HoldsItsBlocks))

  -- all outputs, and the line
  abbrev all : List PlannedOutput
  all = files ++ both.outputs ++ parts.outputs

  abbrev line : List ℕ
  line = line_for n (first_written (map written_of both.outputs)) (length parts.outputs)

  ends-so : verdict_of n names ≡ comes_to Done all (line ∷ [])
  ends-so =
      ap (with_both n names files) merged-so ∙ ap (with_parts n names files both) split-so
      ∙ ap₂ (λ (x y : Bool). comes_to (warned_if (x || y)) all (line ∷ both.warned ++ parts.warned)) (both-undamaged n few names) (parts-undamaged n few names)
      ∙ ap₂ (λ (x y : List (List ℕ)). comes_to Done all (line ∷ x ++ y)) (both-unwarned n few names) (parts-unwarned n few names)

pub generated : GenerateSucceeds
generated n prefix few = record {
  pictures = files-hold Pictures n few;
  sounds = files-hold Sounds n few;
  both = both n prefix few;
  merge = record { unrefused = merged-so n prefix few; unwarned = both-unwarned n few (names_of prefix); undamaged = both-undamaged n few (names_of prefix); holds = one-holds n prefix few };
  one = ap (map name_and_blocks) (both-output n few (names_of prefix));
  parts = parts n prefix few;
  split = record { unrefused = split-so n prefix few; unwarned = parts-unwarned n few (names_of prefix); undamaged = parts-undamaged n few (names_of prefix); holds = parts-hold n few (names_of prefix) };
  cut = parts-cut n few (names_of prefix);
  result = ends-so n prefix few;
}
