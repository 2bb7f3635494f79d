-- All Seeks are the Seeks that were made and the Seeks of the rest.
use Rattle.std.proofs.Common.{◌≡◌, ◌++◌, drop, map}
use Rattle.output_model.specs.SeekHead.{seeks_from}
use Rattle.edit_changes.specs.Plan.{elements_moving}
use Rattle.edit_plan.specs.Shown.{shown}
use Rattle.edit_plan.proofs.appended.moving_seeks.Given as goal

abbrev pub invariant-loop-part : goal.invariant-loop-part
invariant-loop-part l =
    l.seeks.items ++ seeks_from l.position (elements_moving (map shown (drop l.part-index l.parts)))
    ≡ seeks_from l.from (elements_moving (map shown l.parts))
