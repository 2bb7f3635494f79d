-- Lacing that is written: RFC 9559, section 10.3 (Block Lacing).
use Rattle.std.specs.Prelude.{◌≡◌, ℕ, ◌+◌, ◌-◌, ◌^◌, ◌≤◌, nat_le, ⊤, List, [], ◌∷◌, ◌++◌, length, sum, Option, None, Some}
use Rattle.ebml_numbers.specs.Number.{size_octets, least_size_width, least_width}
use Rattle.lacing.specs.declared.kind.Lace.{Lace}
use Rattle.lacing.specs.declared.kind.Lace.TheVariants as lace
use Rattle.lacing.specs.Lace.{xiph_octets, bias, explicit_sizes, AreEqual}

-- ---- one size

-- the absolute difference of the sizes `before` and `size`. `difference_width` uses it.
abbrev pub distance : ℕ → ℕ → ℕ
distance before size = (before - size) + (size - before)

-- the smallest number of bytes that can hold the difference of the sizes `before` and `size` in EBML lacing. `difference_octets` uses it.
unfoldable pub difference_width : ℕ → ℕ → ℕ
difference_width before size = least_width (λ w. nat_le (distance before size) (bias w))

-- the bytes that encode the size `size` as its difference to the size `before` in EBML lacing, as few as possible. `ebml_octets` uses it.
abbrev pub difference_octets : ℕ → ℕ → List ℕ
difference_octets before size =
    size_octets (size + bias (difference_width before size) - before) (difference_width before size)

-- the bytes that encode the size `size` in EBML lacing, as few as possible: the size itself, or its difference to the previous one, in the first
-- argument. `octets_of_size` uses it.
abbrev pub ebml_octets : Option ℕ → ℕ → List ℕ
ebml_octets None size = size_octets size (least_size_width size)
ebml_octets (Some before) size = difference_octets before size

-- the bytes that encode the size `size` in the given lacing; `before` is the previous size, if any. `octets_of_sizes` uses it for each size.
abbrev pub octets_of_size : Lace → Option ℕ → ℕ → List ℕ
octets_of_size lace.None before size = []
octets_of_size lace.Xiph before size = xiph_octets size
octets_of_size lace.Fixed before size = []
octets_of_size lace.Ebml before size = ebml_octets before size

-- ---- a lace

-- the bytes that encode the given sizes in sequence, in the lacing `kind`; `before` is the size before them, if any. `lace_head` uses it.
unfoldable pub octets_of_sizes : Lace → Option ℕ → List ℕ → List ℕ
octets_of_sizes kind before [] = []
octets_of_sizes kind before (size ∷ sizes) = octets_of_size kind before size ++ octets_of_sizes kind (Some size) sizes

-- the head of a lace of the kind `kind` with the frame sizes `sizes`, in bytes: all sizes except the last, if this lacing encodes sizes. The
-- contracts of `lace_len` and `put_lace` have it.
abbrev pub lace_head : Lace → List ℕ → List ℕ
lace_head kind sizes = octets_of_sizes kind None (explicit_sizes sizes)

-- Frames of the sizes `sizes` can be laced by the given kind of lacing. A part of `CanLace`.
abbrev pub FitsKind : Lace → List ℕ → Type 0
FitsKind lace.None sizes = length sizes ≡ 1
FitsKind lace.Xiph sizes = ⊤
FitsKind lace.Fixed sizes = AreEqual sizes
FitsKind lace.Ebml sizes = ⊤

-- Frames of the sizes `sizes`, in bytes, can be laced by `kind`: 1 to 256 sizes, at most 64 MiB together. `lace_len` and `put_lace` require it.
pub record CanLace (kind : Lace) (sizes : List ℕ) : Type 0 where
  pub some : 1 ≤ length sizes
  pub most : length sizes ≤ 256
  pub total : sum sizes ≤ 2 ^ 26
  pub fits : FitsKind kind sizes
