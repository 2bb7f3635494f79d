-- Lacing that is read: RFC 9559, section 10.3 (Block Lacing).
use Rattle.std.specs.Prelude.{◌≡◌, ℕ, zero, suc, ◌+◌, ◌-◌, ◌*◌, ◌/◌, ◌%◌, ◌==◌, nat_le, Bool, not, ◌&&◌, if◌then◌else◌, ◌↔◌, ⊤, List, [], ◌∷◌, ◌++◌, length, drop, sum, replicate, slice_index, position, Option, None, Some, Result, Ok, Err}
use Rattle.std.specs.Option.{option_map}
use Rattle.ebml_numbers.specs.declared.number.Size.{Size}
use Rattle.ebml_numbers.specs.declared.number.Size.TheVariants.{Known, Unknown}
use Rattle.ebml_numbers.specs.declared.number.SizeRead.{SizeRead}
use Rattle.ebml_numbers.specs.declared.number.NumFault.{NumFault}
use Rattle.ebml_numbers.specs.Number.{AreOctets, all_ones, size_at}
use Rattle.lacing.specs.declared.kind.Lace.{Lace}
use Rattle.lacing.specs.declared.kind.Lace.TheVariants as lace
use Rattle.lacing.specs.declared.kind.LaceEnd.{LaceEnd}
use Rattle.lacing.specs.declared.kind.LaceEnd.TheVariants.{Bad, Memory}
use Rattle.lacing.specs.Lace.{bias, FindsLace}

-- ---- one size at the start of the bytes, and the number of bytes that encode it

-- the size at the start of `octets` in Xiph lacing, and the number of bytes that encode it, or None. It is the sum of bytes 255 and the byte after
-- them. `any_size` uses it.
abbrev pub xiph_size : List ℕ → Option (ℕ × ℕ)
xiph_size octets = option_map (λ run. (255 * run + slice_index octets run, run + 1)) (position (λ octet. not (octet == 255)) octets)

-- a size that was read in `len` bytes, with this number, if it is known; otherwise None. `first_size` uses it.
abbrev pub known_size : Size → ℕ → Option (ℕ × ℕ)
known_size (Known size) len = Some (size, len)
known_size Unknown len = None

-- the first size of a lace in EBML lacing as it was read, with the number of its bytes, if it is known; otherwise None. `ebml_size` uses it.
abbrev pub first_size : Result SizeRead NumFault → Option (ℕ × ℕ)
first_size (Ok read) = known_size read.size read.len
first_size (Err fault) = None

-- the value of a variable-size integer of `len` bytes that was read as a size; an unknown size has the value with all bits 1. `next_size` uses it.
abbrev pub data_of : Size → ℕ → ℕ
data_of (Known size) len = size
data_of Unknown len = all_ones len

-- the previous size `before` plus the difference that was read, with the number of its bytes, if the sum isn't negative; otherwise None. `ebml_size`
-- uses it.
abbrev pub next_size : ℕ → Result SizeRead NumFault → Option (ℕ × ℕ)
next_size before (Ok read) =
    if nat_le (bias read.len) (before + data_of read.size read.len) then Some (before + data_of read.size read.len - bias read.len, read.len) else None
next_size before (Err fault) = None

-- the size at the start of `octets` in EBML lacing, and the number of its bytes, or None. After a previous size, the first argument, they encode the
-- difference. `any_size` uses it.
abbrev pub ebml_size : Option ℕ → List ℕ → Option (ℕ × ℕ)
ebml_size None octets = first_size (size_at octets)
ebml_size (Some before) octets = next_size before (size_at octets)

-- the size at the start of `octets` in the given lacing, and the number of its bytes, or None; `before` is the previous size, if any. `size_in` uses
-- it.
abbrev pub any_size : Lace → Option ℕ → List ℕ → Option (ℕ × ℕ)
any_size lace.None before octets = None
any_size lace.Xiph before octets = xiph_size octets
any_size lace.Fixed before octets = None
any_size lace.Ebml before octets = ebml_size before octets

-- a size that was read with the number of its bytes, if its frame and these bytes have at most `total` bytes together; otherwise None. `size_in` uses
-- it.
abbrev pub fitting : ℕ → Option (ℕ × ℕ) → Option (ℕ × ℕ)
fitting total None = None
fitting total (Some (size, len)) = if nat_le (size + len) total then Some (size, len) else None

-- the size at the start of `octets` and the number of its bytes, if its frame fits in the rest; otherwise None. `before` is the previous size, if
-- any. `sizes_in` uses it.
unfoldable pub size_in : Lace → Option ℕ → List ℕ → Option (ℕ × ℕ)
size_in kind before octets = fitting (length octets) (any_size kind before octets)

-- ---- the sizes of a lace, and the length of its head

-- the sizes of a lace and the length of their bytes, with the size `size`, which takes `len` bytes, before them, or None. `size_then` uses it.
abbrev pub with_size : ℕ → ℕ → Option (List ℕ × ℕ) → Option (List ℕ × ℕ)
with_size size len None = None
with_size size len (Some (sizes, head)) = Some (size ∷ sizes, len + head)

-- the given size with the number of its bytes, and the sizes that `others` finds after it, or None if one of them is missing. `sizes_in` uses it.
abbrev pub size_then : Option (ℕ × ℕ) → (ℕ → ℕ → Option (List ℕ × ℕ)) → Option (List ℕ × ℕ)
size_then None others = None
size_then (Some (size, len)) others = with_size size len (others size len)

-- the first `n` sizes at the start of `octets` in the lacing `kind`, and the number of bytes that encode them, or None; `before` is the size before
-- them, if any. `frame_sizes_in` uses them.
unfoldable pub sizes_in : Lace → ℕ → Option ℕ → List ℕ → Option (List ℕ × ℕ)
sizes_in kind zero before octets = Some ([], 0)
sizes_in kind (suc n) before octets =
    size_then (size_in kind before octets) (λ size len. sizes_in kind n (Some size) (drop len octets))

-- the given sizes with the last one after them, which gets the bytes of `total` that the head and the others leave, or None if they are more.
-- `frame_sizes_in` uses it.
abbrev pub with_last : ℕ → Option (List ℕ × ℕ) → Option (List ℕ × ℕ)
with_last total None = None
with_last total (Some (sizes, head)) =
    if nat_le (head + sum sizes) total then Some (sizes ++ (total - head - sum sizes) ∷ [], head) else None

-- the sizes of `count` frames in the bytes `octets`, and the length of the lace's head, if they are a lace of the given kind; otherwise None. `count`
-- is positive. `lace_in` uses it.
abbrev pub frame_sizes_in : Lace → ℕ → List ℕ → Option (List ℕ × ℕ)
frame_sizes_in lace.None count octets = if count == 1 then Some (length octets ∷ [], 0) else None
frame_sizes_in lace.Xiph count octets = with_last (length octets) (sizes_in lace.Xiph (count - 1) None octets)
frame_sizes_in lace.Fixed count octets =
    if length octets % count == 0 then Some (replicate count (length octets / count), 0) else None
frame_sizes_in lace.Ebml count octets = with_last (length octets) (sizes_in lace.Ebml (count - 1) None octets)

-- A block may have `count` frames, which is 1 to 256. `lace_in` uses it.
abbrev pub is_frame_count : ℕ → Bool
is_frame_count count = nat_le 1 count && nat_le count 256

-- the sizes of `count` frames in the bytes `octets` after a block's frame count, if they are a lace, and the length of its head; otherwise None. The
-- contract of `split` has it.
unfoldable pub lace_in : Lace → ℕ → List ℕ → Option (List ℕ × ℕ)
lace_in kind count octets = if is_frame_count count then frame_sizes_in kind count octets else None

-- A reader finds the sizes `sizes` in the head `head` of a lace of the kind `kind`, whatever frames with these sizes follow it. The contract of
-- `put_lace` has it.
abbrev pub IsReadBack : Lace → List ℕ → List ℕ → Type 0
IsReadBack kind sizes head =
    (frames : List ℕ) → length frames ≡ sum sizes → lace_in kind (length sizes) (head ++ frames) ≡ Some (sizes, length head)

-- A reader finds exactly the lace that there is: `lace_in` finds `sizes` and `head` if and only if all of `octets` is such a lace of the kind `kind`.
-- It has `count` frames with these sizes, and a head of `head` bytes. The law `the_lace_is_read` states it.
abbrev pub ReadsTheLace : Type 0
ReadsTheLace =
    (kind : Lace) (count : ℕ) (octets sizes : List ℕ) (head : ℕ) → AreOctets octets → (lace_in kind count octets ≡ Some (sizes, head)) ↔ FindsLace kind count octets sizes head

-- The result of dividing bytes into frames is the expected one, `found`: the sizes `sizes` and the length of their head, or none. Memory may run out.
-- Used by the contract of `split`.
abbrev pub Splits : Option (List ℕ × ℕ) → List ℕ → Result ℕ LaceEnd → Type 0
Splits found sizes (Ok head) = found ≡ Some (sizes, head)
Splits found sizes (Err Bad) = (found ≡ None) × (sizes ≡ [])
Splits found sizes (Err Memory) = ⊤

-- The result of dividing bytes into frames with enough memory is the expected one, `found`. It is the sizes `sizes` and the length of their head, or
-- none. Used by the contracts of the steps of `split`.
abbrev pub Gives : Option (List ℕ × ℕ) → List ℕ → Option ℕ → Type 0
Gives found sizes (Some head) = found ≡ Some (sizes, head)
Gives found sizes None = found ≡ None
