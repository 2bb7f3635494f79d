-- All values are the values that were found and the values of the rest.
use Rattle.std.proofs.Common.{◌≡◌, ◌++◌, drop}
use Rattle.merge_words.specs.Files.{language_tags_in}
use Rattle.merge_words.proofs.files.language_tags_in.Given as goal

abbrev pub invariant-loop-item : goal.invariant-loop-item
invariant-loop-item l = l.list ++ language_tags_in (drop l.item-index l.items) ≡ language_tags_in l.items
