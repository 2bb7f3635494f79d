-- All times ascend exactly if the times from the previous one on do.
use Rattle.std.proofs.Common.{◌≡◌, ◌-◌, drop}
use Rattle.requests.specs.Lists.{ascend}
use Rattle.word_values.proofs.lists.ascend.Given as goal

abbrev pub invariant-loop-k : goal.invariant-loop-k
invariant-loop-k l = ascend (drop (l.k - 1) l.times) ≡ ascend l.times
