use Rattle.std.proofs.Common.{arith, ◌-◌}
use Rattle.word_values.proofs.ListsLemmas.{ascend_last}
use Rattle.word_values.proofs.lists.ascend.Goals as goal

-- At most one time is left.
pub returns : goal.returns
returns c = cc (ascend_last c.args.times.now (c.loop-k.k - 1) (omega arith))
