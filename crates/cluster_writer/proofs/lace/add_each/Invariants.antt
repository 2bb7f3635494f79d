use Rattle.std.proofs.Common.{◌≤◌}
use Rattle.std.specs.Vec.{vec_capacity}
use Rattle.cluster_writer.proofs.FramesLemmas.{Goes}
use Rattle.cluster_writer.proofs.lace.add_each.Given as goal

abbrev pub invariant-loop-size : goal.invariant-loop-size
invariant-loop-size l = record {
  goes : Goes l.prefix l.body l.sizes l.rest l.out.items l.fn.out.items l.size-index;
  capacity : vec_capacity l.fn.out ≤ vec_capacity l.out;
}
