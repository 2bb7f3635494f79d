-- Reading the rest after the items that were read gives all items, or the first refusal.
use Rattle.std.proofs.Common.{◌≡◌, ◌-◌, length, drop}
use Rattle.word_values.specs.Place.{texts}
use Rattle.merge_words.specs.Merge.{items, read_all, starts}
use Rattle.merge_words.proofs.merge.items.Given as goal

abbrev pub invariant-loop-word : goal.invariant-loop-word
invariant-loop-word l =
    read_all (length l.words) l.items (starts l.at (drop l.at (texts l.words))) ≡ items (texts l.words)

abbrev pub decreases-loop-word : goal.decreases-loop-word
decreases-loop-word l = length l.words - l.at
