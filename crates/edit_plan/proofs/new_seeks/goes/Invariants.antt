-- No part that was passed has the ID and is removed.
use Rattle.std.proofs.Common.{◌≡◌, drop, map}
use Rattle.edit_changes.specs.Plan as spec
use Rattle.edit_plan.specs.Shown.{shown}
use Rattle.edit_plan.proofs.new_seeks.goes.Given as goal

abbrev pub invariant-loop-part : goal.invariant-loop-part
invariant-loop-part l = spec.goes (map shown l.parts) l.id ≡ spec.goes (map shown (drop l.part-index l.parts)) l.id
