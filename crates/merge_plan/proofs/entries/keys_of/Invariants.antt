-- The keys are the ones of the tracks passed.
use Rattle.std.proofs.Common.{◌≡◌, ◌++◌, drop, map, take}
use Rattle.merge_inputs.specs.Input.{read_in}
use Rattle.merge_plan.specs.Records.{key_of, keys_from}
use Rattle.merge_plan.proofs.entries.keys_of.Given as goal

abbrev pub invariant-loop-number : goal.invariant-loop-number
invariant-loop-number l = l.keys.items ++ keys_from l.number (map read_in (drop l.number l.inputs)) ≡ keys_from 0 (map read_in l.inputs)

abbrev pub invariant-loop-track : goal.invariant-loop-track
invariant-loop-track l = l.keys.items ≡ l.initial.keys.items ++ map (key_of l.number) (take l.track-index l.track-items)
