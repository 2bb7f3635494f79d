-- Limits of times.
use Rattle.std.specs.Prelude.{ℕ, nat_lt, Bool, true, Option, Some, None}

-- The time `time`, in nanoseconds, is before the limit, if there is one. Chapters are tested by it when a part is cut.
abbrev pub is_before : Option ℕ → ℕ → Bool
is_before None time = true
is_before (Some limit) time = nat_lt time limit
