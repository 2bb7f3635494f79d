-- All Seeks are the Seeks that were found and the Seeks of the remaining IDs.
use Rattle.std.proofs.Common.{◌≡◌, ◌++◌, drop, map}
use Rattle.std.specs.Prelude.{filter_map}
use Rattle.edit_changes.specs.Plan as spec
use Rattle.edit_plan.specs.Shown.{shown}
use Rattle.edit_plan.proofs.new_seeks.seeks_for.Given as goal

abbrev pub invariant-loop-id : goal.invariant-loop-id
invariant-loop-id l =
    l.seeks.items ++ filter_map (spec.seek_for l.moved l.outline (map shown l.parts)) (drop l.id-index l.ids)
    ≡ filter_map (spec.seek_for l.moved l.outline (map shown l.parts)) l.ids
