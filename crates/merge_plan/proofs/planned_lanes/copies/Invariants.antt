-- The copies are the entries that were passed.
use Rattle.std.proofs.Common.{◌≡◌, take}
use Rattle.merge_plan.proofs.planned_lanes.copies.Given as goal

abbrev pub invariant-loop-entry : goal.invariant-loop-entry
invariant-loop-entry l = l.copies ≡ take l.entry-index l.entries
