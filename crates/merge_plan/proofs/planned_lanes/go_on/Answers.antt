-- An input without a track at this index leaves the output track as it is.
use Rattle.std.proofs.Common.{refl, sym}
use Rattle.merge_plan.proofs.LaneLemmas.{stays}
use Rattle.merge_plan.proofs.planned_lanes.go_on.Goals as goal

pub returns-in_default : goal.returns-in_default
returns-in_default c = stays c.args.past_damage c.args.place c.args.number c.args.input.now c.args.lane.now c.args.lane.now (sym c.in_default.ensures) refl
