-- The written and the unwritten bytes are the bytes of all sizes.
use Rattle.std.proofs.Common.{◌≡◌, ◌≤◌, ◌++◌, length, take, drop, None}
use Rattle.lacing.specs.Writing.{octets_of_sizes}
use Rattle.lacing.proofs.writing.put_spelled.Given as goal

abbrev pub invariant-loop-size : goal.invariant-loop-size
invariant-loop-size l = record {
  inside : l.at ≤ length l.out;
  whole : take l.at l.out ++ octets_of_sizes l.kind l.before (drop l.size-index l.sizes) ≡ octets_of_sizes l.kind None l.sizes;
}
