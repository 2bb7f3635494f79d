-- Counts of the system's failures. A count never falls, and stays at 2^64 - 1 once it is there.
use Rattle.std.specs.Prelude.{◌≡◌, ℕ, ◌+◌, ◌-◌, ◌^◌, ◌≤◌, min, Bool, true, false, MatchBool, Result, Ok, Err}
use Rattle.mkv_io.specs.declared.outside.Failed.{Failed}
use Rattle.mkv_io.specs.declared.outside.OpenFault.{OpenFault}
use Rattle.mkv_io.specs.declared.outside.OpenFault.TheVariants as open_fault
use Rattle.mkv_io.specs.declared.outside.MakeFault.{MakeFault}
use Rattle.mkv_io.specs.declared.outside.MakeFault.TheVariants as make_fault
use Rattle.mkv_io.specs.declared.outside.ReadEnd.{ReadEnd}
use Rattle.mkv_io.specs.declared.outside.ReadEnd.TheVariants as read_end

-- the largest value of a count in 64 bits, such as that of failures, of bytes that were read, or of file numbers that were given. Used by
-- `open_file`, `create` and others.
abbrev pub last_count : ℕ
last_count = 2 ^ 64 - 1

-- the count `count` after `n` more events, such as failures or bytes that were read: at most `last_count`. Used by `Increased` and `Counts`.
abbrev pub counted : ℕ → ℕ → ℕ
counted count n = min (count + n) last_count

-- The count grew from `before` to `now`, or `now` is its largest value. `HasIncreased` requires it.
abbrev pub Increased : ℕ → ℕ → Type 0
Increased before now = counted before 1 ≤ now

-- The count of failures hasn't fallen from `before` to `now`, and it grew or has its largest value. Contracts of calls that failed use it.
pub record HasIncreased (before now : ℕ) : Type 0 where
  pub later : before ≤ now
  pub rose : Increased before now

-- A call with this result has increased a count of faults from `before` to `now`, if its error is one that `is_fault` selects. Any other call leaves
-- the count as it was. The contract of each call that may fail uses it.
abbrev pub HasCause : {T E : Type 0} → (E → Bool) → ℕ → ℕ → Result T E → Type 0
HasCause is_fault before now (Ok _) = now ≡ before
HasCause is_fault before now (Err e) = MatchBool (is_fault e) (HasIncreased before now) (now ≡ before)

-- ---- the errors that are faults

-- The error `Failed`, of a call without other errors, is a fault. `HasCause` takes it for `read_at`, `overwrite` and `say`.
abbrev pub is_failure : Failed → Bool
is_failure failed = true

-- The error of opening a file is a fault of the system, and so is counted. `HasCause` takes it for `open_file`; a missing file isn't counted.
abbrev pub is_open_failure : OpenFault → Bool
is_open_failure open_fault.Missing = false
is_open_failure open_fault.Failed = true
is_open_failure open_fault.Memory = false

-- The error of creating a file, or of appending to it, is a fault of the system, and so is counted. `HasCause` takes it for `create` and `append`.
abbrev pub is_make_failure : MakeFault → Bool
is_make_failure make_fault.Failed = true
is_make_failure make_fault.Memory = false

-- The error of a call that reads and allocates is a fault of the system, and so is counted. `HasCause` takes it for readers; running out of memory
-- isn't counted.
abbrev pub is_read_fault : ReadEnd → Bool
is_read_fault read_end.ReadFault = true
is_read_fault read_end.Memory = false
