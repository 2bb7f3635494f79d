use Rattle.std.proofs.Common.{◌≡◌, drop}
use Rattle.sidecar_edit.specs.Fields.{used_in}
use Rattle.sidecar_edit.specs.Recovery.{is_touched}
use Rattle.sidecar_edit.proofs.fit.is_touched.Given as goal

abbrev pub invariant-loop-i : goal.invariant-loop-i
invariant-loop-i l = is_touched (used_in l.head) l.k ≡ is_touched (drop l.i (used_in l.head)) l.k
