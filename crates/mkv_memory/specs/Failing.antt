-- Calls that must fail.
use Rattle.std.specs.Prelude.{ℕ, Bool, false, ◌||◌, ◌==◌, nat_le, Option, Some, None}
use Rattle.mkv_io.specs.Faults.{counted}

-- the state of calls that must fail: a test for their numbers, counted from 0, and the number of calls up to now. A disk in memory has one.
pub record Failures : Type 0 where
  pub to_fail : ℕ → Bool
  pub calls : ℕ

-- The call with the number `call` is at or after the first call of the final failures, if there is one. `failures` uses it.
abbrev pub is_stopped : Option ℕ → ℕ → Bool
is_stopped None call = false
is_stopped (Some stop) call = nat_le stop call

-- the state with `calls` calls up to now. The calls in `single` must fail, and all from `stop` onwards, if there is one. `failures_in` uses it.
abbrev pub failures : (ℕ → Bool) → Option ℕ → ℕ → Failures
failures single stop calls = record { to_fail = λ call. single call || is_stopped stop call; calls = calls }

-- the state before any call, if no call is set to fail. A new disk in memory has it. Used by `new` and `fresh`.
abbrev pub no_failures : Failures
no_failures = record { to_fail = λ _. false; calls = 0 }

-- the state `old` with the call number `call`, counted from 0, set to fail. The contract of `Failing::fail_at` has it.
abbrev pub with_failure : Failures → ℕ → Failures
with_failure old call = record old { to_fail = λ other. (other == call) || old.to_fail other }

-- the state `old` with the call number `call`, counted from 0, and all later ones set to fail. The contract of `Failing::stop_at` has it.
abbrev pub with_stop : Failures → ℕ → Failures
with_stop old call = record old { to_fail = λ other. nat_le call other || old.to_fail other }

-- By the state `old` the next call must fail. The contract of `Failing::next` has it.
abbrev pub is_to_fail : Failures → Bool
is_to_fail old = old.to_fail old.calls

-- the state `old` after one more call. The contract of `Failing::next` has it.
abbrev pub called : Failures → Failures
called old = record old { calls = counted old.calls 1 }
