use Rattle.std.proofs.Common.{◌≡◌, ◌-◌}
use Rattle.sidecar_edit.specs.declared.place.TheConstants.{KEPT}
use Rattle.sidecar_edit.specs.Recovery.{differs, first_place}
use Rattle.sidecar_edit.proofs.fit.octet_mark.Given as goal

abbrev pub invariant-loop-k : goal.invariant-loop-k
invariant-loop-k l = first_place (differs l.head l.media) 0 KEPT ≡ first_place (differs l.head l.media) l.k (KEPT - l.k)
