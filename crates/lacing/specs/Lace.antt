-- Lacing: RFC 9559, section 10.3 (Block Lacing). A lace is the head of a block, with the sizes of its frames, and these frames.
use Rattle.std.specs.Prelude.{◌≡◌, ℕ, ◌+◌, ◌-◌, ◌*◌, ◌/◌, ◌%◌, ◌^◌, ◌≤◌, ⊤, List, [], ◌∷◌, ◌++◌, length, take, sum, All, replicate, Option, None, Some, Ok}
use Rattle.ebml_numbers.specs.declared.number.Size.TheVariants.{Known}
use Rattle.ebml_numbers.specs.Number.{announced, vint_data, size_at}
use Rattle.lacing.specs.declared.kind.Lace.{Lace}
use Rattle.lacing.specs.declared.kind.Lace.TheVariants as lace

-- ---- the encoding of a size

-- the bytes that encode the size `size` in Xiph lacing: the sum of bytes 255 and one smaller byte. `IsSpelling` uses it.
abbrev pub xiph_octets : ℕ → List ℕ
xiph_octets size = replicate (size / 255) 255 ++ size % 255 ∷ []

-- The bytes `octets` encode `size`, the first size in EBML lacing, as a known Element Data Size. `IsSpelling` uses it.
abbrev pub IsFirstSize : ℕ → List ℕ → Type 0
IsFirstSize size octets = size_at octets ≡ Ok (record { size = Known size; len = length octets })

-- the value that encodes a difference of 0 in an integer of `n` bytes, in EBML lacing. `IsDifference` uses it.
abbrev pub bias : ℕ → ℕ
bias n = 2 ^ (7 * n - 1) - 1

-- The bytes `octets` encode the size `size` as its difference to the previous size `before`, in a variable-size integer of any width, in EBML lacing.
-- The value with all bits 1 is a difference like others. `IsSpelling` uses it.
pub record IsDifference (before size : ℕ) (octets : List ℕ) : Type 0 where
  pub whole : announced octets ≡ length octets
  pub few : length octets ≤ 8
  pub sum : before + vint_data (length octets) octets ≡ size + bias (length octets)

-- The bytes `octets` encode the size `size` in the given lacing, after the previous size `before`, if any. `Spells` uses it for each size.
abbrev pub IsSpelling : Lace → Option ℕ → ℕ → List ℕ → Type 0
IsSpelling lace.None before size octets = ⊥
IsSpelling lace.Xiph before size octets = octets ≡ xiph_octets size
IsSpelling lace.Fixed before size octets = ⊥
IsSpelling lace.Ebml None size octets = IsFirstSize size octets
IsSpelling lace.Ebml (Some before) size octets = IsDifference before size octets

-- The bytes `octets` encode a list of sizes in sequence, in the lacing `kind`; the size before them is `before`, if any. `IsLaceHead` uses it.
abbrev pub Spells : Lace → Option ℕ → List ℕ → List ℕ → Type 0
Spells kind before [] octets = octets ≡ []
Spells kind before (size ∷ sizes) octets =
    (one : List ℕ) × (more : List ℕ) × (octets ≡ one ++ more) × IsSpelling kind before size one × Spells kind (Some size) sizes more

-- ---- the parts of a lace

-- the sizes that the head of a lace contains: all except the last, which follows from the others. The input is all sizes. `IsLaceHead` uses them.
abbrev pub explicit_sizes : List ℕ → List ℕ
explicit_sizes [] = []
explicit_sizes (size ∷ []) = []
explicit_sizes (size ∷ (next ∷ sizes)) = size ∷ explicit_sizes (next ∷ sizes)

-- All sizes in the list are equal, as fixed-size lacing requires. `IsLaceHead` uses it.
abbrev pub AreEqual : List ℕ → Type 0
AreEqual [] = ⊤
AreEqual (size ∷ sizes) = All (λ other. other ≡ size) sizes

-- The bytes `head` are the head of a lace with the given lacing and the frame sizes `sizes`, in bytes. A part of `IsLace`.
abbrev pub IsLaceHead : Lace → List ℕ → List ℕ → Type 0
IsLaceHead lace.None head sizes = (length sizes ≡ 1) × (head ≡ [])
IsLaceHead lace.Xiph head sizes = Spells lace.Xiph None (explicit_sizes sizes) head
IsLaceHead lace.Fixed head sizes = AreEqual sizes × (head ≡ [])
IsLaceHead lace.Ebml head sizes = Spells lace.Ebml None (explicit_sizes sizes) head

-- The bytes `head` are the head of a lace of the kind `kind` with the frame sizes `sizes`, 1 to 256. The head and the frames have `total` bytes
-- together. The contract of `put_lace` has it.
pub record IsLace (kind : Lace) (head sizes : List ℕ) (total : ℕ) : Type 0 where
  pub some : 1 ≤ length sizes
  pub most : length sizes ≤ 256
  pub spelled : IsLaceHead kind head sizes
  pub whole : length head + sum sizes ≡ total

-- The bytes `octets` are a lace of the kind `kind`, with `frames` frames of the sizes `sizes`, and a head of `head` bytes. The contract of `split`
-- has it.
pub record FindsLace (kind : Lace) (frames : ℕ) (octets sizes : List ℕ) (head : ℕ) : Type 0 where
  pub count : length sizes ≡ frames
  pub inside : head ≤ length octets
  pub lace : IsLace kind (take head octets) sizes (length octets)

-- No prefix of the bytes `octets` is the head of a lace of `frames` frames, in the given lacing. The contract of `split` has it.
abbrev pub HasNoLace : Lace → ℕ → List ℕ → Type 0
HasNoLace kind frames octets =
    (head rest sizes : List ℕ) → octets ≡ head ++ rest → length sizes ≡ frames → IsLace kind head sizes (length octets) → ⊥

-- The head of a lace determines its sizes. Lists of sizes, `a` and `b`, with the same lacing `kind`, length, head and total number of bytes are
-- equal. The law `head_settles_sizes` states it.
abbrev pub HeadSettlesSizes : Type 0
HeadSettlesSizes =
    (kind : Lace) (head a b : List ℕ) (total : ℕ) → length a ≡ length b → IsLace kind head a total → IsLace kind head b total → a ≡ b
