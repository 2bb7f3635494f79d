-- The greatest count is the greatest of the parts passed and of the rest.
use Rattle.std.proofs.Common.{◌≡◌, drop, map, max}
use Rattle.edit_changes.specs.Plan.{most_nodes}
use Rattle.edit_plan.specs.Shown.{shown}
use Rattle.edit_plan.proofs.appended.most_nodes.Given as goal

abbrev pub invariant-loop-part : goal.invariant-loop-part
invariant-loop-part l = max l.most (most_nodes (map shown (drop l.part-index l.parts))) ≡ most_nodes (map shown l.parts)
