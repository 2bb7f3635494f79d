-- All values are the values that were found and the values of the rest.
use Rattle.std.proofs.Common.{◌≡◌, ◌++◌, drop}
use Rattle.merge_words.specs.Files.{languages_in}
use Rattle.merge_words.proofs.files.languages_in.Given as goal

abbrev pub invariant-loop-item : goal.invariant-loop-item
invariant-loop-item l = l.list ++ languages_in (drop l.item-index l.items) ≡ languages_in l.items
