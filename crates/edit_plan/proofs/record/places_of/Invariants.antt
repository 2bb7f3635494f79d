-- The places are the places of the writes passed and of the rest.
use Rattle.std.proofs.Common.{◌≡◌, ◌++◌, drop, map}
use Rattle.edit_changes.specs.Plan.{place}
use Rattle.edit_plan.specs.Shown.{written}
use Rattle.edit_plan.proofs.record.places_of.Given as goal

abbrev pub invariant-loop-write : goal.invariant-loop-write
invariant-loop-write l =
    l.places.items ++ map place (map written (drop l.write-index l.writes)) ≡ map place (map written l.writes)
