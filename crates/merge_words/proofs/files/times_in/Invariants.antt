-- All values are the values that were found and the values of the rest.
use Rattle.std.proofs.Common.{◌≡◌, ◌++◌, drop}
use Rattle.merge_words.specs.Files.{times_in}
use Rattle.merge_words.proofs.files.times_in.Given as goal

abbrev pub invariant-loop-item : goal.invariant-loop-item
invariant-loop-item l = l.list ++ times_in (drop l.item-index l.items) ≡ times_in l.items
