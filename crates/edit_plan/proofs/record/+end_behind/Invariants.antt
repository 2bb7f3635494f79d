use Rattle.std.proofs.Common.{length}
use Rattle.edit_plan.proofs.record.+end_behind.Given as goal

-- The number of remaining places decreases.
abbrev pub decreases-end_behind : goal.decreases-end_behind
decreases-end_behind l = length l.places.now
