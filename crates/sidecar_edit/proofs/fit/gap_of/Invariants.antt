use Rattle.std.proofs.Common.{◌≡◌, ◌+◌, ◌*◌, drop}
use Rattle.sidecar_edit.specs.Fields.{used_in}
use Rattle.sidecar_edit.specs.Recovery.{gap_of}
use Rattle.sidecar_edit.proofs.fit.gap_of.Given as goal

abbrev pub invariant-loop-k : goal.invariant-loop-k
invariant-loop-k l = gap_of 32 l.size (used_in l.head) ≡ gap_of (32 + 16 * l.k) l.end (drop l.k (used_in l.head))
