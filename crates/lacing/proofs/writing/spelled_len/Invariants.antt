-- The counted and the uncounted bytes are the bytes of all sizes.
use Rattle.std.proofs.Common.{◌≡◌, ◌+◌, length, drop, None}
use Rattle.lacing.specs.Writing.{octets_of_sizes}
use Rattle.lacing.proofs.writing.spelled_len.Given as goal

abbrev pub invariant-loop-size : goal.invariant-loop-size
invariant-loop-size l =
    l.len + length (octets_of_sizes l.kind l.before (drop l.size-index l.sizes)) ≡ length (octets_of_sizes l.kind None l.sizes)
