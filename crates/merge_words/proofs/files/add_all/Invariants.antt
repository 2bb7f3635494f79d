-- The list, with the numbers of the rest, is the old list with all numbers.
use Rattle.std.proofs.Common.{◌≡◌, drop}
use Rattle.merge_words.specs.Files.{with_new}
use Rattle.merge_words.proofs.files.add_all.Given as goal

abbrev pub invariant-loop-id : goal.invariant-loop-id
invariant-loop-id l = with_new l.named.keys (drop l.id-index l.ids) ≡ with_new l.initial.named.keys l.ids
