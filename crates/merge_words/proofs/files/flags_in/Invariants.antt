-- All values are the values that were found and the values of the rest.
use Rattle.std.proofs.Common.{◌≡◌, ◌++◌, drop}
use Rattle.merge_words.specs.Files.{flags_in}
use Rattle.merge_words.proofs.files.flags_in.Given as goal

abbrev pub invariant-loop-item : goal.invariant-loop-item
invariant-loop-item l = l.list ++ flags_in l.subject (drop l.item-index l.items) ≡ flags_in l.subject l.items
