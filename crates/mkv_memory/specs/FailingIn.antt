-- The observable state of the type for calls that must fail.
use Rattle.std.specs.BTreeSet.{contains}
use Rattle.std.specs.Ordering.{nat_cmp}
use Rattle.mkv_memory.specs.Failing.{Failures, failures}
use Rattle.mkv_memory.specs.declared.failing.Failing.{Failing}

-- the observable state of a set `f` of calls that must fail, which its contracts are about. Used by `new`, `fail_at` and others.
abbrev pub failures_in : Failing → Failures
failures_in f = failures (contains nat_cmp f.single) f.stop f.made
