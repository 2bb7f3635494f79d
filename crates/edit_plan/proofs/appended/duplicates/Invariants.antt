-- No part that was passed is refused.
use Rattle.std.proofs.Common.{◌≡◌, drop, map}
use Rattle.edit_changes.specs.Plan.{moving, twin_refusal}
use Rattle.edit_plan.specs.Shown.{shown}
use Rattle.edit_plan.proofs.appended.duplicates.Given as goal

abbrev pub invariant-loop-part : goal.invariant-loop-part
invariant-loop-part l =
    twin_refusal l.outline.others (moving (map shown l.parts))
    ≡ twin_refusal l.outline.others (moving (map shown (drop l.part-index l.parts)))
