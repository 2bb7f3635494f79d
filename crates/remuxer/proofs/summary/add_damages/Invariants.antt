use Rattle.std.proofs.Common.{◌≡◌, ◌++◌, take}
use Rattle.remux_plan.specs.Summary.{first_damages}
use Rattle.remuxer.proofs.summary.add_damages.Given as goal

abbrev pub invariant-loop-damage : goal.invariant-loop-damage
invariant-loop-damage l = record {
  outputs : l.summary.outputs ≡ l.initial.summary.outputs;
  damages : l.summary.damages ≡ l.initial.summary.damages ++ first_damages l.input (record l.told { first = take l.damage-index l.damage-items });
  more : l.summary.more ≡ l.initial.summary.more;
}
