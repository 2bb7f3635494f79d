-- No part that was passed moves.
use Rattle.std.proofs.Common.{◌≡◌, drop, map}
use Rattle.std.specs.List.{list_any}
use Rattle.edit_changes.specs.Plan as spec
use Rattle.edit_plan.specs.Shown.{shown}
use Rattle.edit_plan.proofs.appended.any_moves.Given as goal

abbrev pub invariant-loop-part : goal.invariant-loop-part
invariant-loop-part l = list_any spec.moves (map shown l.parts) ≡ list_any spec.moves (map shown (drop l.part-index l.parts))
