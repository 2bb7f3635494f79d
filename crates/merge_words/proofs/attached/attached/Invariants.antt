-- All attached files are those that were found and those of the rest.
use Rattle.std.proofs.Common.{◌≡◌, ◌-◌, ◌≤◌, ◌++◌, take, drop, []}
use Rattle.merge_words.proofs.FilesLemmas.{attached_from}
use Rattle.merge_words.proofs.attached.attached.Given as goal

abbrev pub invariant-loop-k : goal.invariant-loop-k
invariant-loop-k l = record {
  within : l.start ≤ l.k;
  left : l.attached ++ attached_from (take (l.k - l.start) (drop l.start l.items)) (drop l.k l.items) ≡ attached_from [] l.items;
}
