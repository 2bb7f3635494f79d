use Rattle.std.proofs.Common.{◌≡◌, ℕ, take}
use Rattle.std.specs.List.{list_any}
use Rattle.splitter.specs.Split.{has_come, is_within}
use Rattle.splitter.proofs.spec.first_time.Given as goal

abbrev pub invariant-loop-bound : goal.invariant-loop-bound
invariant-loop-bound l = (time : ℕ) → has_come l.end time ≡ list_any (is_within l.start time) (take l.bound-index l.at)
