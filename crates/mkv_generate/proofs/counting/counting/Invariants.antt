-- The first `k` bytes are there.
use Rattle.std.proofs.Common.{◌≡◌}
use Rattle.arrayvec.specs.ArrayVec.{array_vec_len}
use Rattle.mkv_generate.specs.Blocks.{counting}
use Rattle.mkv_generate.proofs.counting.counting.Given as goal

abbrev pub invariant-loop-k : goal.invariant-loop-k
invariant-loop-k l = record {
  octets : l.octets.items ≡ counting l.first l.k;
  len : array_vec_len l.octets ≡ l.k;
}
