use Rattle.std.proofs.Common.{◌≡◌, ◌++◌}
use Rattle.sidecar_edit.specs.Fields.{slots}
use Rattle.sidecar_edit.proofs.plan.append_places.Given as goal

abbrev pub invariant-loop-k : goal.invariant-loop-k
invariant-loop-k l = l.octets ≡ l.fn.octets ++ slots l.k l.places
