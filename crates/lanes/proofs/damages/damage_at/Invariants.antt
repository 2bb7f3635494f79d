use Rattle.std.proofs.Common.{◌≡◌, drop}
use Rattle.std.specs.List.{slice_get}
use Rattle.lanes.specs.Told.{damages_from, link_damages}
use Rattle.lanes.proofs.damages.damage_at.Given as goal

abbrev pub invariant-loop-link : goal.invariant-loop-link
invariant-loop-link l = slice_get (damages_from l.link (drop l.link l.told)) l.left ≡ slice_get (link_damages l.told) l.k
