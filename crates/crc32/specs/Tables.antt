-- The words of `Tables`.
use Rattle.std.specs.Prelude.{◌≡◌, ℕ, zero, suc, ◌+◌, ◌*◌, ◌/◌, ◌%◌, ◌<◌, List, slice_index}
use Rattle.crc32.specs.Checksum.{shifted}

-- the register `register` after `n` shifts without bits of a message; `zero` shifts change nothing. Used by `HoldShifts` and by contracts of
-- `after_word` and `eight_shifts`.
unfoldable pub shifts : ℕ → ℕ → ℕ
shifts zero register = register
shifts (suc n) register = shifted (shifts n register)

-- The word at `256 * k + byte` of `words` is the register `byte` after `8 * (k + 1)` shifts, for k below 16. It is the invariant of `Tables`.
abbrev pub HoldShifts : List ℕ → Type 0
HoldShifts words = (place : ℕ) → place < 4096 → slice_index words place ≡ shifts (8 * (place / 256 + 1)) (place % 256)
