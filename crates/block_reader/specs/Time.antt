-- Times of blocks in nanoseconds: RFC 9559, section 11 (Timestamps). The limit on a time is this project's.
use Rattle.std.specs.Prelude.{ℕ, ◌*◌, ◌<◌, nat_abs, Bool, if◌then◌else◌, ℤ, pos, Option, Some, None}
use Rattle.block_format.specs.declared.limits.TheConstants.{TOO_LARGE_TIME}
use Rattle.block_format.specs.Block.{nanoseconds, is_too_large}

-- The time `time` of a block or a reference, in nanoseconds, is below 2^56 in size, as all times are that readers accept. Used by `references`,
-- `HasSmallTimes` and others.
abbrev pub IsSmallTime : ℤ → Type 0
IsSmallTime time = nat_abs time < TOO_LARGE_TIME

-- A time of `ticks` ticks of `scale` nanoseconds is 2^56 nanoseconds or more in size, so its block is damaged. Used by `scale_all`,
-- `has_too_large_ticks` and others.
abbrev pub is_too_large_at : ℕ → ℤ → Bool
is_too_large_at scale ticks = is_too_large (nanoseconds scale ticks)

-- a time of `ticks` ticks of `scale` nanoseconds, in nanoseconds, or None if that is 2^56 or more in size; for a block and its references. Used by
-- the contracts of `block_time` and `scale_all`.
abbrev pub scaled : ℕ → ℤ → Option ℤ
scaled scale ticks = if is_too_large_at scale ticks then None else Some (nanoseconds scale ticks)

-- the duration of a BlockGroup of `ticks` ticks of `scale` nanoseconds, in nanoseconds, or None if that is 2^56 or more. The contract of the function
-- of the same name states it.
abbrev pub scaled_duration : ℕ → ℕ → Option ℕ
scaled_duration scale ticks = if is_too_large (pos (ticks * scale)) then None else Some (ticks * scale)
