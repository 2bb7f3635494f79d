-- The owner's keys among the ones that were passed.
use Rattle.std.proofs.Common.{◌≡◌, ◌++◌, drop}
use Rattle.merge_plan.specs.Order.{picked}
use Rattle.merge_plan.specs.Records.{is_begun_by}
use Rattle.merge_plan.proofs.records.keys_at.Given as goal

abbrev pub invariant-loop-key : goal.invariant-loop-key
invariant-loop-key l = picked (is_begun_by l.owner) l.keys l.keys ≡ l.own.items ++ picked (is_begun_by l.owner) (drop l.key-index l.keys) (drop l.key-index l.keys)
