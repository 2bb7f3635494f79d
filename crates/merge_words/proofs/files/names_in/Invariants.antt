-- All values are the values that were found and the values of the rest.
use Rattle.std.proofs.Common.{◌≡◌, ◌++◌, drop}
use Rattle.merge_words.specs.Files.{names_in}
use Rattle.merge_words.proofs.files.names_in.Given as goal

abbrev pub invariant-loop-item : goal.invariant-loop-item
invariant-loop-item l = l.list ++ names_in (drop l.item-index l.items) ≡ names_in l.items
