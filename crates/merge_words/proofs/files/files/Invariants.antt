-- All files are the files that were found and the files of the rest.
use Rattle.std.proofs.Common.{◌≡◌, ◌-◌, ◌≤◌, ◌++◌, take, drop, []}
use Rattle.merge_words.proofs.FilesLemmas.{files_from}
use Rattle.merge_words.proofs.files.files.Given as goal

abbrev pub invariant-loop-k : goal.invariant-loop-k
invariant-loop-k l = record {
  within : l.start ≤ l.k;
  left : l.files ++ files_from (take (l.k - l.start) (drop l.start l.items)) (drop l.k l.items) ≡ files_from [] l.items;
}
