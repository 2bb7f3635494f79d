-- The first inputs have their Chapters, and the remaining Chapters go to the next input.
use Rattle.std.proofs.Common.{◌≡◌, ◌++◌}
use Rattle.mkv_merge.specs.Chapters.{first_with, with_tree}
use Rattle.mkv_merge.proofs.ChaptersLemmas.{left_for}
use Rattle.mkv_merge.proofs.chapters.first_with.Given as goal

abbrev pub invariant-loop-input : goal.invariant-loop-input
invariant-loop-input l = record {
  all : l.yielded ++ l.input-iterator.rest.items ≡ l.initial.input-iterator.rest.items;
  list : l.list ≡ first_with with_tree l.fn.chapters l.yielded;
  next : l.next ≡ left_for l.fn.chapters l.yielded;
}
