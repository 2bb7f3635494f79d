-- WebM allows the codecs of the previous tracks.
use Rattle.std.proofs.Common.{◌≡◌, drop}
use Rattle.merge_plan.specs.Lent.{lent}
use Rattle.merge_plan.specs.Refusal.{other_codec}
use Rattle.merge_plan.proofs.plan.other_codec.Given as goal

abbrev pub invariant-loop-each : goal.invariant-loop-each
invariant-loop-each l = other_codec (drop l.each-index (lent l.taken)) ≡ other_codec (lent l.taken)
