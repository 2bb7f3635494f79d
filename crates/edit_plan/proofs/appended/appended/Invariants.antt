-- The bytes that were appended and the bytes of the rest are the whole.
use Rattle.std.proofs.Common.{◌≡◌, ◌++◌, drop, map}
use Rattle.edit_changes.specs.Plan.{appended}
use Rattle.edit_plan.specs.Shown.{shown}
use Rattle.edit_plan.proofs.appended.appended.Given as goal

abbrev pub invariant-loop-part : goal.invariant-loop-part
invariant-loop-part l = l.out.items ++ appended (map shown (drop l.part-index l.parts)) ≡ appended (map shown l.parts)
