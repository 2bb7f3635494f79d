-- All spans follow exactly if the rest do.
use Rattle.std.proofs.Common.{◌≡◌, drop}
use Rattle.requests.specs.Lists.{follow}
use Rattle.word_values.proofs.lists.follow.Given as goal

abbrev pub invariant-loop-k : goal.invariant-loop-k
invariant-loop-k l = follow l.least (drop l.k l.spans) ≡ follow 0 l.spans
