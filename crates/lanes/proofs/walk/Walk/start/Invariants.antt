use Rattle.std.proofs.Common.{◌≡◌, [], replicate}
use Rattle.cluster_reader.specs.ToldDamages.{told_damages}
use Rattle.lanes.proofs.walk.Walk.start.Given as goal

abbrev pub invariant-loop-link : goal.invariant-loop-link
invariant-loop-link l = l.told.items ≡ replicate l._link (told_damages [])
