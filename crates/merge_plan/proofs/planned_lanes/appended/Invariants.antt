-- The previous inputs are appended.
use Rattle.std.proofs.Common.{◌≡◌, ◌+◌, drop}
use Rattle.std.specs.List.{prefix_len}
use Rattle.merge_plan.specs.TakenTracks.{goes_on}
use Rattle.merge_plan.proofs.planned_lanes.appended.Given as goal

abbrev pub invariant-loop-k : goal.invariant-loop-k
invariant-loop-k l = l.k + prefix_len goes_on (drop l.k l.inputs) ≡ prefix_len goes_on l.inputs
