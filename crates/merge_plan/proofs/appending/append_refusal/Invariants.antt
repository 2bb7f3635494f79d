-- The previous inputs can continue.
use Rattle.std.proofs.Common.{◌≡◌, drop, map}
use Rattle.merge_inputs.specs.Input.{read_in}
use Rattle.merge_plan.specs.Appending.{append_refusal, differs_from}
use Rattle.merge_plan.proofs.appending.append_refusal.Given as goal

abbrev pub invariant-loop-k : goal.invariant-loop-k
invariant-loop-k l = differs_from l.before l.k (map read_in (drop l.k l.inputs)) ≡ append_refusal (map read_in l.inputs)
