use Rattle.std.proofs.Common.{◌≡◌, map, drop}
use Rattle.edit_changes.specs.Properties.{shown}
use Rattle.edit_changes.specs.Property as spec
use Rattle.edit_changes.proofs.table.row_of.Given as goal

-- The row is among the rest.
abbrev pub invariant-loop-row : goal.invariant-loop-row
invariant-loop-row l = spec.in_table l.name (map shown l.rows) ≡ spec.in_table l.name (map shown (drop l.row-index l.rows))
