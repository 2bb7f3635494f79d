use Rattle.std.proofs.Common.{◌≡◌, take}
use Rattle.sidecar_edit.specs.Fields.{last_end, places_in}
use Rattle.sidecar_edit.proofs.head.end_in.Given as goal

abbrev pub invariant-loop-k : goal.invariant-loop-k
invariant-loop-k l = l.end ≡ last_end 0 (take l.k (places_in l.head))
