use Rattle.std.proofs.Common.{◌≡◌, map, take}
use Rattle.std.specs.List.{All}
use Rattle.block_reader.specs.Time.{IsSmallTime}
use Rattle.output_model.specs.Ticks.{ticks_to}
use Rattle.lanes.proofs.place.put_references.Given as goal

abbrev pub invariant-loop-away : goal.invariant-loop-away
invariant-loop-away l = record {
  exact : l.into.items ≡ map (ticks_to l.scale l.t) (take l.away-index l.references);
  small : All IsSmallTime l.into.items;
}
