-- Numbers are read back after writing, and written back after reading: RFC 8794, sections 4 (Variable-Size Integer) to 7 (EBML Element Types).
use Rattle.std.specs.Prelude.{◌≡◌, true, ℕ, ◌*◌, ◌≤◌, ◌<◌, ℤ, List, length, take, drop, Ok}
use Rattle.byteorder.specs.Endian.{big_number, big_bytes}
use Rattle.ebml_numbers.specs.declared.number.IdRead.{IdRead}
use Rattle.ebml_numbers.specs.declared.number.Size.TheVariants.{Known}
use Rattle.ebml_numbers.specs.declared.number.SizeRead.{SizeRead}
use Rattle.ebml_numbers.specs.Number.{AreOctets, marker, all_ones, id_at, id_octets, size_at, size_octets, uint_width, int_of, int_fits, int_octets_in}

-- The first `n` bytes of a list of bytes are bytes, and so are the others. It is the law `octets_stay`.
pub record OctetsStay : Type 0 where
  pub front : (n : ℕ) (octets : List ℕ) → AreOctets octets → AreOctets (take n octets)
  pub behind : (n : ℕ) (octets : List ℕ) → AreOctets octets → AreOctets (drop n octets)

-- ---- written numbers are read back

-- A signed number `z` that fits `w` bytes is read from its two's complement in `w` bytes. It is the law `signed_are_read`.
abbrev pub SignedAreRead : Type 0
SignedAreRead = (w : ℕ) (z : ℤ) → 1 ≤ w → int_fits z w ≡ true → int_of (int_octets_in w z) ≡ z

-- A number `n` that is the marker of `w` bytes plus smaller data takes `w` bytes. It is the law `markers_tell_widths`.
abbrev pub MarkersTellWidths : Type 0
MarkersTellWidths = (w n : ℕ) → 1 ≤ w → w ≤ 8 → marker w ≤ n → n < 2 * marker w → uint_width n ≡ w

-- ---- read numbers are written back

-- A big-endian number that was read from the first `n` of `octets` is written in `n` bytes as the same bytes. It is the law
-- `numbers_are_written_again`.
abbrev pub NumbersAreWrittenAgain : Type 0
NumbersAreWrittenAgain =
    (n : ℕ) (octets : List ℕ) → AreOctets octets → n ≤ length octets → big_bytes n (big_number n octets) ≡ take n octets

-- The ID `read` that was read at the start of `octets` is written as the bytes that it was read from. It is the law `ids_are_written_again`.
abbrev pub IdsAreWrittenAgain : Type 0
IdsAreWrittenAgain =
    (octets : List ℕ) (read : IdRead) → AreOctets octets → id_at octets ≡ Ok read → id_octets read.id ≡ take read.len octets

-- The list `octets` begins with the known size `size` in `w` bytes, which it fits. `SizesAreWrittenAgain` requires it.
pub record SpellsSize (octets : List ℕ) (size w : ℕ) : Type 0 where
  pub some : 1 ≤ w
  pub most : w ≤ 8
  pub fits : size < all_ones w
  pub inside : w ≤ length octets
  pub front : size_octets size w ≡ take w octets

-- The known size `size`, read at the start of `octets`, is written in the same width as the bytes that it was read from. It is the law
-- `sizes_are_written_again`.
abbrev pub SizesAreWrittenAgain : Type 0
SizesAreWrittenAgain =
    (octets : List ℕ) (read : SizeRead) (size : ℕ) → AreOctets octets → size_at octets ≡ Ok read → read.size ≡ Known size
    → SpellsSize octets size read.len
