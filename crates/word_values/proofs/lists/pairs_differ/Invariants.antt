-- All pairs differ exactly if the rest do.
use Rattle.std.proofs.Common.{◌≡◌, drop}
use Rattle.word_values.specs.Lists.{pairs_differ}
use Rattle.word_values.proofs.lists.pairs_differ.Given as goal

abbrev pub invariant-loop-k : goal.invariant-loop-k
invariant-loop-k l = pairs_differ (drop l.k l.pairs) ≡ pairs_differ l.pairs
