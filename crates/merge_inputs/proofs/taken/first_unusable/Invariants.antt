-- The previous tracks can be used.
use Rattle.std.proofs.Common.{◌≡◌, drop}
use Rattle.merge_inputs.specs.Taken.{first_unusable}
use Rattle.merge_inputs.proofs.taken.first_unusable.Given as goal

abbrev pub invariant-loop-each : goal.invariant-loop-each
invariant-loop-each l = first_unusable l.taken ≡ first_unusable (drop l.each-index l.taken)
