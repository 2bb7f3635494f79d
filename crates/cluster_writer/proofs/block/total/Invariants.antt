use Rattle.std.proofs.Common.{◌≡◌, take, sum}
use Rattle.cluster_writer.proofs.block.total.Given as goal

abbrev pub invariant-loop-size : goal.invariant-loop-size
invariant-loop-size l = l.total ≡ sum (take l.size-index l.sizes)
