-- All numbers differ exactly if the rest do.
use Rattle.std.proofs.Common.{◌≡◌, drop}
use Rattle.requests.specs.Lists.{differ}
use Rattle.word_values.proofs.lists.differ.Given as goal

abbrev pub invariant-loop-k : goal.invariant-loop-k
invariant-loop-k l = differ (drop l.k l.numbers) ≡ differ l.numbers
