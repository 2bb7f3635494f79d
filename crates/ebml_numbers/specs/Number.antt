-- The numbers of EBML: RFC 8794, sections 4 (Variable-Size Integer), 5 (Element ID), 6 (Element Data Size) and 7 (EBML Element Types).
use Rattle.std.specs.Prelude.{◌≡◌, ◌≤◌, ⊤, true, ℕ, suc, ◌+◌, ◌-◌, ◌*◌, ◌%◌, ◌^◌, ◌==◌, nat_lt, nat_le, Bool, not, ◌&&◌, ◌||◌, if◌then◌else◌, ℤ, pos, negsuc, List, [], ◌∷◌, length, slice_index, ◌<◌, find, unwrap_or, Result, Ok, Err, ◌++◌, IsTrue}
use Rattle.std.specs.Int.{w8, leading_zeros}
use Rattle.byteorder.specs.Endian.{big_number, big_bytes, twos_complement}
use Rattle.ebml_numbers.specs.declared.number.IdRead.{IdRead}
use Rattle.ebml_numbers.specs.declared.number.Size.{Size}
use Rattle.ebml_numbers.specs.declared.number.Size.TheVariants.{Known, Unknown}
use Rattle.ebml_numbers.specs.declared.number.SizeRead.{SizeRead}
use Rattle.ebml_numbers.specs.declared.number.NumFault.{NumFault}
use Rattle.ebml_numbers.specs.declared.number.NumFault.TheVariants.{More, Bad}

-- Each number in `octets` is a byte: below 256. Required of contents of files, since a content is only a list of numbers.
abbrev pub AreOctets : List ℕ → Type 0
AreOctets octets = (i : ℕ) → slice_index octets i < 256

-- ---- Variable-Size Integers (RFC 8794, section 4)

-- the length in bytes of an ID or size with the first byte `first`: one more than its leading zero bits (section 4.1, VINT_WIDTH). `id_at` and
-- `size_at` begin with it.
abbrev pub width : ℕ → ℕ
width first = leading_zeros w8 first + 1

-- the marker bit of an ID or size of `w` bytes, above seven bits of data for each byte (section 4.2, VINT_MARKER). IDs and sizes are read and written
-- with it. Used by `without_marker`, `MarkersTellWidths` and others.
abbrev pub marker : ℕ → ℕ
marker w = 2 ^ (7 * w)

-- the data of the variable-size integer in the first `w` of `octets`, as a big-endian number without the marker (section 4.3, VINT_DATA). IDs, sizes,
-- track numbers of blocks, and the sizes in a lace are read with it.
abbrev pub vint_data : ℕ → List ℕ → ℕ
vint_data w octets = big_number w octets % marker w

-- the largest data of a variable-size integer of `w` bytes: all bits are 1. As a size it means unknown, and as an ID it is reserved. Used by
-- `size_width`, `put_size` and others.
abbrev pub all_ones : ℕ → ℕ
all_ones w = marker w - 1

-- the smallest width, 1 to 8 bytes, that passes the test `fits`, or 8 if none does. Widths of written sizes and integers are defined by it.
abbrev pub least_width : (ℕ → Bool) → ℕ
least_width fits = unwrap_or (find fits (1 ∷ 2 ∷ 3 ∷ 4 ∷ 5 ∷ 6 ∷ 7 ∷ 8 ∷ [])) 8

-- the length in bytes that the first byte gives to an ID, a size or a block's track number, or 1 if there is no byte. Blocks' headers are divided by
-- it. Used by `IsCut` and others.
abbrev pub announced : List ℕ → ℕ
announced [] = 1
announced (first ∷ rest) = width first

-- The list `octets` is a proper prefix of a number of `n` bytes, and `n` is at most `most`. Contracts of `read_id` and `read_size` promise it for the
-- error `More`.
pub record IsCut (most n : ℕ) (octets : List ℕ) : Type 0 where
  pub announced : announced octets ≡ n
  pub short : length octets < n
  pub allowed : n ≤ most

-- The result of reading a number is one that no further byte changes: a number, or `Bad`. Contracts of `read_id` and `read_size` use it.
abbrev pub IsSettled : {T : Type 0} → Result T NumFault → Type 0
IsSettled (Ok read) = ⊤
IsSettled (Err Bad) = ⊤
IsSettled (Err (More n)) = ⊥

-- The width `w` of 1 to 8 bytes fulfils `Fits`, and no smaller width does. Contracts of the functions that write sizes and integers promise it.
pub record IsLeastWidth (Fits : ℕ → Type 0) (w : ℕ) : Type 0 where
  pub some : 1 ≤ w
  pub most : w ≤ 8
  pub fits : Fits w
  pub least : (k : ℕ) → 1 ≤ k → Fits k → w ≤ k

-- ---- Element IDs (RFC 8794, section 5)

-- The data `v` of an ID, without its marker, fits `w` bytes: its bits are neither all 0 nor all 1. `is_id_data` uses it for two widths.
abbrev pub id_fits : ℕ → ℕ → Bool
id_fits w v = nat_le 1 v && nat_lt v (all_ones w)

-- The data `v` of an ID, without its marker, fits `w` bytes, and no fewer. Required of each ID that is read. Used by `id_of_width` and
-- `is_id_of_width`.
abbrev pub is_id_data : ℕ → ℕ → Bool
is_id_data w v = id_fits w v && not (id_fits (w - 1) v)

-- the Element ID in the first `w` of `octets`, with its marker, or `Bad` if they aren't a valid one. `id_at` ends with it.
abbrev pub id_of_width : ℕ → List ℕ → Result IdRead NumFault
id_of_width w octets =
    if is_id_data w (vint_data w octets) then Ok (record { id = big_number w octets; len = w }) else Err Bad

-- the result of reading an Element ID at the start of the given bytes, as `read_id` promises it. It has at most 4 bytes, so its first byte is at
-- least `10`.
unfoldable pub id_at : List ℕ → Result IdRead NumFault
id_at [] = Err (More 1)
id_at (first ∷ rest) =
    if nat_lt first 0x10 then Err Bad else
    if nat_lt (length (first ∷ rest)) (width first) then Err (More (width first)) else
    id_of_width (width first) (first ∷ rest)

-- The number `n` is an Element ID of `w` bytes: marker and data. `is_id` uses it for 1 to 4 bytes.
abbrev pub is_id_of_width : ℕ → ℕ → Bool
is_id_of_width w n = nat_le (marker w) n && is_id_data w (n - marker w)

-- The number `n` is an Element ID, as the standards print it with its marker. Required of IDs that are written. Used by `IsIdWithin`, `is_written_id`
-- and others.
unfoldable pub is_id : ℕ → Bool
is_id n = is_id_of_width 1 n || is_id_of_width 2 n || is_id_of_width 3 n || is_id_of_width 4 n

-- The Element ID `read` that was read is valid, and takes 1 to 4 of the `octets` bytes. The contract of `read_id` promises it.
pub record IsIdWithin (octets : ℕ) (read : IdRead) : Type 0 where
  pub valid : is_id read.id ≡ true
  pub some : 1 ≤ read.len
  pub most : read.len ≤ 4
  pub inside : read.len ≤ octets

-- The ID `n` may be written. RFC 9559 gives ChapterDisplay the ID 0x80, which RFC 8794 doesn't allow. `put_id` and all writers of Elements require
-- it.
abbrev pub is_written_id : ℕ → Bool
is_written_id n = is_id n || (n == 0x80)

-- ---- Element Data Sizes (RFC 8794, section 6)

-- the size with the data `v` in `w` bytes; data bits that are all 1 mean an unknown size (section 6.2, Unknown Data Size). `size_at` ends with it.
abbrev pub size_of_data : ℕ → ℕ → Size
size_of_data w v = if v == all_ones w then Unknown else Known v

-- the result of reading an Element Data Size at the start of the given bytes, as `read_size` promises it; it may take more bytes than it needs
unfoldable pub size_at : List ℕ → Result SizeRead NumFault
size_at [] = Err (More 1)
size_at (first ∷ rest) =
    if first == 0 then Err Bad else
    if nat_lt (length (first ∷ rest)) (width first) then Err (More (width first)) else
    Ok (record { size = size_of_data (width first) (vint_data (width first) (first ∷ rest)); len = width first })

-- The bytes `octets` begin with `00`, and so with no size. The contract of `read_size` promises `Bad` for them only.
abbrev pub StartsWithZero : List ℕ → Type 0
StartsWithZero octets = (1 ≤ length octets) × (slice_index octets 0 ≡ 0)

-- The given Element Data Size is less than `n` if it is known. `IsSizeWithin` requires it.
abbrev pub IsKnownBelow : ℕ → Size → Type 0
IsKnownBelow n (Known v) = v < n
IsKnownBelow n Unknown = ⊤

-- The Element Data Size `read` that was read takes 1 to 8 of the `octets` bytes; a known one is less than 2^56 - 1. The contract of `read_size`
-- promises it.
pub record IsSizeWithin (octets : ℕ) (read : SizeRead) : Type 0 where
  pub known : IsKnownBelow (2 ^ 56 - 1) read.size
  pub some : 1 ≤ read.len
  pub most : read.len ≤ 8
  pub inside : read.len ≤ octets

-- the bytes of the known size `v` in `w` bytes, as `put_size` writes them
abbrev pub size_octets : ℕ → ℕ → List ℕ
size_octets v w = big_bytes w (marker w + v)

-- the smallest number of bytes that can hold the known size `v`, in which headers are written unless another width is given. Used by `size_width` and
-- others.
unfoldable pub least_size_width : ℕ → ℕ
least_size_width v = least_width (λ w. nat_lt v (all_ones w))

-- ---- Integers (RFC 8794, sections 7.1, Signed Integer Element, and 7.2, Unsigned Integer Element)

-- the number that all of the bytes `octets` of a leaf encode, or 0 if there are none (section 7.2). Readers of unsigned integers use it.
abbrev pub uint_of : List ℕ → ℕ
uint_of octets = big_number (length octets) octets

-- the smallest number of bytes, at least one, that can hold the number `v`, in which unsigned integers are written. Used by `put_id`, `put_uint` and
-- others.
unfoldable pub uint_width : ℕ → ℕ
uint_width v = least_width (λ w. nat_lt v (256 ^ w))

-- the bytes of the number `v`, as few as possible, as `put_uint` writes them
abbrev pub uint_octets : ℕ → List ℕ
uint_octets v = big_bytes (uint_width v) v

-- the bytes of the ID `n`, which has its marker already, as `put_id` writes them
abbrev pub id_octets : ℕ → List ℕ
id_octets n = uint_octets n

-- the two's complement value of all of the bytes `octets`, or 0 if there are none. They are a signed leaf, or the relative timestamp of a block. Used
-- by `read_int`, `put_int` and others.
abbrev pub int_of : List ℕ → ℤ
int_of octets = twos_complement (length octets) (uint_of octets)

-- a number without its sign, from which the width in bytes of a signed integer follows: `n` for both `n` and `-n-1`. Used by `put_int`, `int_width`
-- and others.
abbrev pub magnitude : ℤ → ℕ
magnitude (pos n) = n
magnitude (negsuc n) = n

-- The number `z` is at least -2^(8w-1) and less than 2^(8w-1), so it fits `w` bytes. Signed integers are written in the least such width. Used by
-- `SignedAreRead` and `int_width`.
abbrev pub int_fits : ℤ → ℕ → Bool
int_fits z w = nat_lt (magnitude z) (2 ^ (8 * w - 1))

-- the smallest number of bytes, at least one, that can hold the signed number `z`, in which a ReferenceBlock is written. Used by `put_int` and
-- `int_octets`.
unfoldable pub int_width : ℤ → ℕ
int_width z = least_width (int_fits z)

-- the two's complement of the given number in `w` bytes. A block's relative timestamp is written in two. Used by `SignedAreRead`, `int_octets` and
-- others.
abbrev pub int_octets_in : ℕ → ℤ → List ℕ
int_octets_in w (pos n) = big_bytes w n
int_octets_in w (negsuc n) = big_bytes w (256 ^ w - suc n)

-- the bytes of the signed number `z`, as few as possible, as `put_int` writes them
abbrev pub int_octets : ℤ → List ℕ
int_octets z = int_octets_in (int_width z) z

-- ---- reading back

-- The bytes `octets` are read as the known size `value` with the width `width`, whatever follows them. The contract of `put_size` promises it.
abbrev pub ReadsAsSize : List ℕ → ℕ → ℕ → Type 0
ReadsAsSize octets value width = (rest : List ℕ) → size_at (octets ++ rest) ≡ Ok (record { size = Known value; len = width })

-- If `id` is valid, the bytes `octets` are read as this ID with the width `width`, whatever follows them. The contract of `put_id` promises it.
abbrev pub ReadsAsId : List ℕ → ℕ → ℕ → Type 0
ReadsAsId octets id width = (rest : List ℕ) → IsTrue (is_id id) → id_at (octets ++ rest) ≡ Ok (record { id = id; len = width })
