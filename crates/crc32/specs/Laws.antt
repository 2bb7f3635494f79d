-- The check of received bytes: ITU-T V.42, section 8.1.1.6.2.
use Rattle.std.specs.Prelude.{◌≡◌, ℕ, ◌-◌, ◌^◌, List, [], ◌∷◌, ◌++◌}
use Rattle.std.specs.Int.{to_le_bytes, w32}
use Rattle.crc32.specs.Checksum.{polynomial, after_bytes, crc32}

-- the remainder that V.42 names for received bits without errors: 1100 0111 0000 0100 1101 1101 0111 1011, the coefficients of x^31 to x^0. Used by
-- `ChecksumsLeaveTheRemainder`.
abbrev pub remainder : ℕ
remainder = polynomial (31 ∷ 30 ∷ 26 ∷ 25 ∷ 24 ∷ 18 ∷ 15 ∷ 14 ∷ 12 ∷ 11 ∷ 10 ∷ 8 ∷ 6 ∷ 5 ∷ 4 ∷ 3 ∷ 1 ∷ 0 ∷ [])

-- Any `bytes` and then their CRC-32, in little-endian order, leave V.42's remainder in the register. It is the law `checksums_leave_the_remainder`.
abbrev pub ChecksumsLeaveTheRemainder : Type 0
ChecksumsLeaveTheRemainder = (bytes : List ℕ) → after_bytes (2 ^ 32 - 1) (bytes ++ to_le_bytes w32 (crc32 bytes)) ≡ remainder
