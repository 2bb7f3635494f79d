-- Parts of a merge that end at a load keep its limit.
use Rattle.std.proofs.Common.{ℕ, Bool, List, Option, Some, None, IfSome}
use Rattle.output_model.specs.OutputBlock.{OutputBlock}
use Rattle.splitter.specs.Sections.{Split}
use Rattle.splitter.specs.Words.{size_of, spec_of}
use Rattle.part_size.proofs.SizeLemmas.{parts-full, parts-small}
use Rattle.remux_plan.specs.Parts.{drives_by}
use Rattle.requests.specs.Sound.{IsSoundSplit}
use Rattle.requests.specs.declared.split.SplitWords.{SplitWords}
use Rattle.requests.specs.declared.split.SplitWords.TheVariants.{Duration, Times, Parts, AllChapters, Chapters, Size}
use Rattle.requests.specs.declared.merge.MergeWords.{MergeWords}
use Rattle.requests.specs.Sound.{IsSoundMerge}
use Rattle.merge_plan.specs.Front.{reads_of}
use Rattle.merge_plan.specs.Plan.{Source, drives_given, starts_in}
use Rattle.merge_plan.specs.Records.{chapters_of}
use Rattle.mkv_merge.specs.Merge.{blocks_of, split_of}
use Rattle.merge_laws.specs.Merge.{KeepsLimit}

module _ (starts : List ℕ) (scale : ℕ) (drives : ℕ → Bool) (blocks : List OutputBlock) where
  -- the split of the command line
  abbrev split_by : Option SplitWords → Split
  split_by words = record { spec = spec_of words starts; size = size_of words; scale = scale; drives = drives }

  limit-kept : (words : Option SplitWords) → IfSome words IsSoundSplit → IfSome (size_of words) (KeepsLimit (split_by words) blocks)
  limit-kept None sound = tt
  limit-kept (Some (Duration by)) sound = tt
  limit-kept (Some (Times at)) sound = tt
  limit-kept (Some (Parts spans)) sound = tt
  limit-kept (Some AllChapters) sound = tt
  limit-kept (Some (Chapters numbers)) sound = tt
  limit-kept (Some (Size limit)) sound = record { full = parts-full limit scale drives blocks; small = parts-small limit scale drives blocks sound.least }

pub loads-kept : (words : MergeWords) (sources : List Source) → IsSoundMerge words → IfSome (size_of words.split) (KeepsLimit (split_of words sources) (blocks_of words sources))
loads-kept words sources sound =
    limit-kept (starts_in (chapters_of (reads_of sources))) words.scale (drives_by (drives_given words.order (reads_of sources))) (blocks_of words sources) words.split sound.split
