-- CRC-32 of a list of bytes: the 32-bit frame check sequence of ITU-T V.42, section 8.1.1.6.2, which RFC 8794, section 11.3.1 (CRC-32 Element) names.
use Rattle.std.specs.Prelude.{ℕ, ◌-◌, ◌/◌, ◌%◌, ◌^◌, ◌==◌, if◌then◌else◌, List, [], ◌∷◌, map, sum, bit_xor}
use Rattle.std.specs.Int.{bit_at, bit_not, w32}
use Rattle.std.specs.List.{fold, flat_map}

-- the sum of x^i for each i in `exponents`, all below 32, as a register holds a polynomial: bit 31 - i is the coefficient of x^i. Used by
-- `generator` and `remainder`.
abbrev pub polynomial : List ℕ → ℕ
polynomial exponents = sum (map (λ i. 2 ^ (31 - i)) exponents)

-- the generator polynomial without its highest term, x^32. Used by `shifted`.
abbrev pub generator : ℕ
generator = polynomial (26 ∷ 23 ∷ 22 ∷ 16 ∷ 12 ∷ 11 ∷ 10 ∷ 8 ∷ 7 ∷ 5 ∷ 4 ∷ 2 ∷ 1 ∷ 0 ∷ [])

-- the polynomial in `register`, multiplied by x, modulo the generator polynomial and 2. Used by `after_bit`.
abbrev pub shifted : ℕ → ℕ
shifted register = if register % 2 == 0 then register / 2 else bit_xor (register / 2) generator

-- the register after the bit `bit` of a message, if it is `register` before it. Used by `after_bytes`.
abbrev pub after_bit : ℕ → ℕ → ℕ
after_bit register bit = shifted (bit_xor register bit)

-- the bits of `byte`, the least significant first. Used by `after_bytes`.
abbrev pub bits_of : ℕ → List ℕ
bits_of byte = map (bit_at byte) (0 ∷ 1 ∷ 2 ∷ 3 ∷ 4 ∷ 5 ∷ 6 ∷ 7 ∷ [])

-- the register after `bytes`, if it is `register` before them: each bit in turn divides. Used by `crc32`.
unfoldable pub after_bytes : ℕ → List ℕ → ℕ
after_bytes register bytes = fold after_bit register (flat_map bits_of bytes)

-- the CRC-32 of `bytes`: the register begins with all ones, and its ones' complement after the bytes is the result. The contracts of `Crc32` have it.
unfoldable pub crc32 : List ℕ → ℕ
crc32 bytes = bit_not w32 (after_bytes (2 ^ 32 - 1) bytes)
