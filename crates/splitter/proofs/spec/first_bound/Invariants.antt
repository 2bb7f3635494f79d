use Rattle.std.proofs.Common.{◌≡◌, ℕ, take}
use Rattle.std.specs.List.{list_any}
use Rattle.splitter.specs.Split.{has_come, passes}
use Rattle.splitter.proofs.spec.first_bound.Given as goal

abbrev pub invariant-loop-span : goal.invariant-loop-span
invariant-loop-span l = (time : ℕ) → has_come l.end time ≡ list_any (passes l.start time) (take l.span-index l.spans)
