use Rattle.std.proofs.Common.{◌≡◌, take}
use Rattle.arrayvec.specs.ArrayVec.{array_vec_len}
use Rattle.cluster_writer.specs.Lengths.{prefixed_sizes}
use Rattle.cluster_writer.proofs.lace.prefixed_sizes.Given as goal

abbrev pub invariant-loop-size : goal.invariant-loop-size
invariant-loop-size l = record {
  same : l.all.items ≡ prefixed_sizes l.prefix (take l.size-index l.sizes);
  len : array_vec_len l.all ≡ l.size-index;
}
