-- `generate` succeeds, and each of its files holds its blocks.
use Rattle.std.specs.Prelude.{◌≡◌, ◌≤◌, ℕ, false, List, [], ◌∷◌, ◌++◌, length, map, All, None, Ok, true}
use Rattle.requests.specs.declared.merge.MergeWords.{MergeWords}
use Rattle.output_model.specs.OutputBlock.{OutputBlock}
use Rattle.splitter.specs.Sections.{Part, Split, parts as parts_cut}
use Rattle.splitter.specs.declared.spec.SplitSpec.TheVariants.{Duration}
use Rattle.merge_model.specs.Merged.{merged}
use Rattle.remux_plan.specs.Parts.{PlannedOutput, drives_by}
use Rattle.remux_plan.specs.Summary.{written_of}
use Rattle.mkv_lines.specs.declared.status.Status.TheVariants.{Done}
use Rattle.mkv_generate.specs.declared.blocks.MediaKind.TheVariants.{Pictures, Sounds}
use Rattle.mkv_generate.specs.Blocks.{blocks_of}
use Rattle.mkv_generate.specs.Files.{file_of, lane_blocks}
use Rattle.mkv_generate.specs.Generate.{MergeMade, both_words, comes_to, first_written, generate_verdict, line_for, merge_of, names_of, parts_words, two_files}
use Rattle.merge_laws.specs.Laws.{name_and_blocks}
use Rattle.generate_laws.specs.Files.{HoldsBlocks, most_pictures}

-- the blocks of the merged file for `n` pictures: the blocks of both files, merged by time. For `IsGenerated`, in the law on `generate`.
abbrev pub both_blocks : ℕ → List OutputBlock
both_blocks n = merged (blocks_of Pictures n ∷ blocks_of Sounds n ∷ [])

-- the split of the merged file: it cuts before the first keyframe picture at least ten seconds after the start of a part. For `IsGenerated`, in the
-- law on `generate`.
abbrev pub ten_seconds : Split
ten_seconds = record { spec = Duration 10000000000; size = None; scale = 1000000; drives = drives_by (true ∷ false ∷ []) }

-- The output `o` is valid and holds exactly the blocks that it should have. For `Succeeds`, in the law on `generate`.
abbrev pub HoldsItsBlocks : PlannedOutput → Type 0
HoldsItsBlocks o = HoldsBlocks o.document o.blocks

-- The merge of `files` with the command line `words` isn't refused, and makes `made`. It gives no warning, meets no damage, and each output holds its
-- blocks. For `IsGenerated`, for both merges.
pub record Succeeds (words : MergeWords) (files : List PlannedOutput) (made : MergeMade) : Type 0 where
  pub unrefused : merge_of words files ≡ Ok made
  pub unwarned : made.warned ≡ []
  pub undamaged : made.damaged ≡ false
  pub holds : All HoldsItsBlocks made.outputs

-- `generate N PREFIX` succeeds, where `n` is N and `prefix` is PREFIX. Both files hold their blocks. Their merge succeeds with one output, which has
-- the merged list of all blocks. The split of this output succeeds, and its outputs have the blocks of the merged list's parts. The outcome is the
-- status Done, all outputs in sequence, and exactly one line. For `GenerateSucceeds`.
pub record IsGenerated (n : ℕ) (prefix : List ℕ) : Type 0 where
  pub pictures : HoldsBlocks (file_of Pictures n) (lane_blocks Pictures n)
  pub sounds : HoldsBlocks (file_of Sounds n) (lane_blocks Sounds n)
  pub both : MergeMade
  pub merge : Succeeds (both_words (names_of prefix)) (two_files n (names_of prefix)) both
  pub one : map name_and_blocks both.outputs ≡ ((names_of prefix).both, both_blocks n) ∷ []
  pub parts : MergeMade
  pub split : Succeeds (parts_words (names_of prefix)) both.outputs parts
  pub cut : map (λ (o : PlannedOutput). o.blocks) parts.outputs ≡ map (λ (p : Part). p.blocks) (parts_cut ten_seconds (both_blocks n))
  pub result : generate_verdict n prefix
      ≡ comes_to Done (two_files n (names_of prefix) ++ both.outputs ++ parts.outputs)
      (line_for n (first_written (map written_of both.outputs)) (length parts.outputs) ∷ [])

-- `generate` succeeds for at most 100,000 pictures and each prefix. The number of pictures is `n`. The law `generate_succeeds` states it.
abbrev pub GenerateSucceeds : Type 0
GenerateSucceeds = (n : ℕ) (prefix : List ℕ) → n ≤ most_pictures → IsGenerated n prefix
