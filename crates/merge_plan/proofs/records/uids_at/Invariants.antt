-- The owner's TrackUIDs among the ones that were passed.
use Rattle.std.proofs.Common.{◌≡◌, ◌++◌, drop}
use Rattle.merge_plan.specs.Order.{picked}
use Rattle.merge_plan.specs.Records.{is_begun_by}
use Rattle.merge_plan.proofs.records.uids_at.Given as goal

abbrev pub invariant-loop-k : goal.invariant-loop-k
invariant-loop-k l = picked (is_begun_by l.owner) l.keys l.numbers ≡ l.own ++ picked (is_begun_by l.owner) (drop l.k l.keys) (drop l.k l.numbers)
