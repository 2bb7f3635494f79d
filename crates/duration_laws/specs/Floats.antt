-- The bytes of a Duration, read back: RFC 8794, section 7.3 (Float), and RFC 9559, section 5.1.2 (Info Element).
use Rattle.std.specs.Prelude.{◌≡◌, ◌≤◌, ◌<◌, ◌⊎◌, ℕ, ◌+◌, ◌-◌, ◌*◌, ◌^◌, ◌%◌, false, List}
use Rattle.std.specs.Float.{Float, binary64}
use Rattle.std.specs.Float.Ieee.{of_bits}
use lib.Ieee.Exact.{HasValue}
use Rattle.byteorder.specs.Endian.{big_number}
use Rattle.output_model.specs.Duration.{float_octets}

-- the value of a Float of eight bytes, the most significant one first, by which the laws read a Duration back. Used by `ShortDurationsAreExact` and
-- `LongDurationsAreNearest`.
abbrev pub float_in : List ℕ → Float
float_in octets = of_bits binary64 (big_number 8 octets)

-- The float `x`, a Duration that is read back, is exactly the whole number `n`, and not negative. Both laws on floats use it. Used by
-- `ShortDurationsAreExact` and `IsNearestFloat`.
abbrev pub IsExactly : Float → ℕ → Type 0
IsExactly x n = HasValue x false n 1

-- A Duration of `n` ticks, at most 2^53, is read back from its eight bytes as exactly this number. It is the law `short_durations_are_exact`.
abbrev pub ShortDurationsAreExact : Type 0
ShortDurationsAreExact = (n : ℕ) → n ≤ 2 ^ 53 → IsExactly (float_in (float_octets n)) n

-- The number `times * unit` is nearest to `n` among the multiples of `unit`. If two are equally near, `times` is even. `IsNearestFloat` requires it
-- of a Duration, where `unit` is the distance of neighbouring floats.
pub record IsNearest (unit n times : ℕ) : Type 0 where
  pub above : 2 * (times * unit) ≤ 2 * n + unit
  pub below : 2 * n ≤ 2 * (times * unit) + unit
  pub even : (2 * (times * unit) ≡ 2 * n + unit) ⊎ (2 * n ≡ 2 * (times * unit) + unit) → times % 2 ≡ 0

-- The float `x`, a Duration that is read back, is nearest to `n`, which is at least 2^e and less than 2^(e + 1). In this range the numbers of IEEE
-- 754's binary64 are the multiples of 2^(e - 52). If two are equally near, `x` is the even multiple. The law `long_durations_are_nearest` requires
-- it.
pub record IsNearestFloat (e n : ℕ) (x : Float) : Type 0 where
  pub times : ℕ
  pub value : IsExactly x (times * 2 ^ (e - 52))
  pub nearest : IsNearest (2 ^ (e - 52)) n times

-- A Duration of `n` ticks, at least 2^53 and in 64 bits, is read back from its eight bytes as the nearest float. `e` is the exponent of 2 below `n`.
-- It is the law `long_durations_are_nearest`.
abbrev pub LongDurationsAreNearest : Type 0
LongDurationsAreNearest =
    (e n : ℕ) → 53 ≤ e → e < 64 → 2 ^ e ≤ n → n < 2 ^ (e + 1) → IsNearestFloat e n (float_in (float_octets n))
