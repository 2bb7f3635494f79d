-- No item from here on has the subject.
use Rattle.std.proofs.Common.{◌≡◌, ◌≤◌, ◌++◌, take, drop, [], length}
use Rattle.merge_words.proofs.ItemsLemmas.{latest}
use Rattle.merge_words.proofs.item.since.Given as goal

abbrev pub invariant-loop-start : goal.invariant-loop-start
invariant-loop-start l = record {
  within : l.start ≤ length l.items;
  left : latest l.subject [] (take l.start l.items) ++ drop l.start l.items ≡ latest l.subject [] l.items;
}

abbrev pub decreases-loop-start : goal.decreases-loop-start
decreases-loop-start l = l.start
