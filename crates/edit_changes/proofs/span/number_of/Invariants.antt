use Rattle.std.proofs.Common.{◌≡◌, ◌≤◌, ◌+◌, drop}
use Rattle.edit_changes.specs.Plan.{number_of}
use Rattle.edit_changes.proofs.span.number_of.Given as goal

-- The count is the count of the Elements passed and of the rest.
abbrev pub invariant-loop-k : goal.invariant-loop-k
invariant-loop-k l = record {
  few : l.number ≤ l.k;
  way : number_of l.id l.outline.others ≡ l.number + number_of l.id (drop l.k l.outline.others);
}
