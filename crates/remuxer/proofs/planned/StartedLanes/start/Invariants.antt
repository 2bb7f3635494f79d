use Rattle.std.proofs.Common.{◌≡◌, List, ◌++◌, All}
use Rattle.std.specs.List.{AllZip}
use Rattle.lanes.specs.Lane.{LaneSeen}
use Rattle.remux_plan.specs.Parts.{drivers_of}
use Rattle.remux_plan.specs.Plan.{rules_of}
use Rattle.remuxer.specs.Started.{CanStart, IsStarted, numbers_of}
use Rattle.remuxer.proofs.planned.StartedLanes.start.Given as goal

abbrev pub invariant-loop-lane : goal.invariant-loop-lane
invariant-loop-lane l = record {
  can : All CanStart l.lane-iterator.rest.items;
  lanes : (ls : List LaneSeen) → AllZip (IsStarted l.scale) l.lane-iterator.rest.items ls → AllZip (IsStarted l.scale) l.initial.lane-iterator.rest.items (l.started.lanes ++ ls);
  rules : l.started.rules ++ rules_of l.lane-iterator.rest.items ≡ rules_of l.initial.lane-iterator.rest.items;
  drives : l.started.drives ++ drivers_of l.lane-iterator.rest.items ≡ drivers_of l.initial.lane-iterator.rest.items;
  inputs : l.started.inputs ++ numbers_of l.lane-iterator.rest.items ≡ numbers_of l.initial.lane-iterator.rest.items;
}
