-- The previous titles are empty.
use Rattle.std.proofs.Common.{◌≡◌, drop, map}
use Rattle.merge_inputs.specs.Input.{read_in}
use Rattle.merge_plan.specs.Records.{first_title}
use Rattle.merge_plan.proofs.title.first_title.Given as goal

abbrev pub invariant-loop-input : goal.invariant-loop-input
invariant-loop-input l = first_title (map read_in (drop l.input-index l.inputs)) ≡ first_title (map read_in l.inputs)
