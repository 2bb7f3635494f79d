-- All atoms are the atoms counted and the atoms of the remaining editions.
use Rattle.std.proofs.Common.{◌≡◌, ◌+◌, length, drop}
use Rattle.mkv_info.specs.Chapters.{top_atoms}
use Rattle.mkv_info.proofs.chapters.chapter_count.Given as goal

abbrev pub invariant-loop-edition : goal.invariant-loop-edition
invariant-loop-edition l = l.count + length (top_atoms (drop l.edition-index l.edition-items)) ≡ length (top_atoms l.edition-items)
