-- Laws on the identifiers that an output gets.
use Rattle.std.specs.Prelude.{◌≡◌, ◌<◌, ◌≤◌, ℕ, ◌+◌, true, false, List, length, All}
use Rattle.record_changes.specs.Identifiers.{is_free, smallest_free, renumbered, AreSettled}

-- The number that `smallest_free` gives is positive and not in the list. Each smaller positive number is in the list, so it is at most one more than
-- the length. It is the law `smallest_is_free`.
pub record SmallestIsFree : Type 0 where
  pub positive : (taken : List ℕ) → 0 < smallest_free taken
  pub free : (taken : List ℕ) → is_free taken (smallest_free taken) ≡ true
  pub least : (taken : List ℕ) (n : ℕ) → 0 < n → n < smallest_free taken → is_free taken n ≡ false
  pub small : (taken : List ℕ) → smallest_free taken ≤ length taken + 1

-- Each of the identifiers `ids` gets a number, the numbers are positive and distinct, and identifiers that already are stay unchanged. It is the law
-- `numbers_settle`.
pub record NumbersSettle : Type 0 where
  pub each : (ids : List ℕ) → length (renumbered ids) ≡ length ids
  pub settled : (ids : List ℕ) → AreSettled (renumbered ids)
  pub stays : (ids : List ℕ) → AreSettled ids → renumbered ids ≡ ids

-- The numbers that the identifiers `ids` get are below `most` if `ids` are, and if there are fewer than half of `most`. It is the law `numbers_fit`.
abbrev pub NumbersFit : Type 0
NumbersFit =
    (ids : List ℕ) (most : ℕ) → All (λ id. id < most) ids → length ids + length ids < most → All (λ n. n < most) (renumbered ids)
