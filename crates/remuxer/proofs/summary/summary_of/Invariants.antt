use Rattle.std.proofs.Common.{◌≡◌}
use Rattle.std.specs.List.{range_with_len}
use Rattle.remuxer.specs.Taking.{told_by}
use Rattle.remuxer.specs.Told.{HasDamages}
use Rattle.remuxer.proofs.summary.summary_of.Given as goal

abbrev pub invariant-loop-input : goal.invariant-loop-input
invariant-loop-input l = record {
  outputs : l.summary.outputs ≡ l.initial.summary.outputs;
  damages : HasDamages l.inputs (told_by l.merge) (range_with_len 0 l.input) l.summary;
}
