use Rattle.std.proofs.Common.{◌≡◌, ◌≤◌, ◌*◌, take}
use Rattle.sidecar_edit.specs.Fields.{places_in, sum_of}
use Rattle.sidecar_edit.proofs.head.sum_in.Given as goal

abbrev pub invariant-loop-k : goal.invariant-loop-k
invariant-loop-k l = record {
  is : l.sum ≡ sum_of (take l.k (places_in l.head));
  most : l.sum ≤ l.k * 18446744073709551616;
}
