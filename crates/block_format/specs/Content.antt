-- The content of a Block or a SimpleBlock: RFC 9559, sections 10.1 (Block Structure), 10.2 (SimpleBlock Structure) and 10.3 (Block Lacing).
use Rattle.std.specs.Prelude.{ℕ, ◌+◌, ◌==◌, nat_lt, Bool, not, ◌||◌, if◌then◌else◌, ℤ, List, [], ◌∷◌, length, take, drop, slice_index, bit_and, Option, Some, None, Result, Ok, Err}
use Rattle.ebml_numbers.specs.Number.{announced, vint_data, int_of}
use Rattle.lacing.specs.declared.kind.Lace.{Lace}
use Rattle.lacing.specs.declared.kind.Lace.TheVariants as lace
use Rattle.lacing.specs.Reading.{lace_in}
use Rattle.mkv_io.specs.declared.damage.Kind.{Kind}
use Rattle.mkv_io.specs.declared.damage.Kind.TheVariants.{ShortBlock, BadLacing}

-- ---- the header

-- the length in bytes of the header in `octets`, the content of a Block or SimpleBlock. It has the track number, two bytes of time and one of flags.
-- For `has_no_header` and `data_in`, when a file's blocks are read.
abbrev pub header_len : List ℕ → ℕ
header_len octets = announced octets + 3

-- The content `octets` of a Block or SimpleBlock ends inside its header, or its track number begins with `00`, which gives no width. It is damage,
-- for `content_in` when a file's blocks are read.
abbrev pub has_no_header : List ℕ → Bool
has_no_header octets = slice_index octets 0 == 0 || nat_lt (length octets) (header_len octets)

-- the track number in `octets`, the content of a Block or SimpleBlock, which may be any data of a variable-size integer. For `content_with`, when a
-- file's blocks are read.
abbrev pub track_in : List ℕ → ℕ
track_in octets = vint_data (announced octets) octets

-- the signed number of ticks from the Cluster's Timestamp to the block with the content `octets`. For `content_with`, when a file's blocks are read.
abbrev pub relative_in : List ℕ → ℤ
relative_in octets = int_of (take 2 (drop (announced octets) octets))

-- the flags of a Block or SimpleBlock with the body `octets`: the byte after its track number and its relative timestamp. For `content_with`, when a
-- file's blocks are read.
abbrev pub flags_in : List ℕ → ℕ
flags_in octets = slice_index octets (announced octets + 2)

-- the bytes after the header in `octets`, the content of a Block or SimpleBlock. For the frames, in `content_in`.
abbrev pub data_in : List ℕ → List ℕ
data_in octets = drop (header_len octets) octets

-- ---- the flags

-- The flags `flags` have one of the bits of `flag`. For the flags of a block.
abbrev pub has_flag : ℕ → ℕ → Bool
has_flag flag flags = not (bit_and flags flag == 0)

-- The flags `flags` have the keyframe flag of a SimpleBlock. A Block has no such flag. For the block of a SimpleBlock.
abbrev pub is_key : ℕ → Bool
is_key flags = has_flag 0x80 flags

-- The flags `flags` state that the block is decoded, but not shown. For the blocks of SimpleBlocks and BlockGroups.
abbrev pub is_invisible : ℕ → Bool
is_invisible flags = has_flag 0x08 flags

-- The flags `flags` state that the block may be left out if there is no time for it. A Block has no such flag. For the block of a SimpleBlock.
abbrev pub is_discardable : ℕ → Bool
is_discardable flags = has_flag 0x01 flags

-- the lacing for `bits`, the two bits of it in the flags of a block. For `lace_of`, when a file's blocks are read.
abbrev pub lace_of_bits : ℕ → Lace
lace_of_bits bits =
    if bits == 0x00 then lace.None else
    if bits == 0x02 then lace.Xiph else
    if bits == 0x04 then lace.Fixed else
    lace.Ebml

-- the lacing in the flags `flags` of a block. For the frames of a block.
abbrev pub lace_of : ℕ → Lace
lace_of flags = lace_of_bits (bit_and flags 0x06)

-- ---- the frames

-- the bytes `octets` divided into frames with the given sizes in bytes. Used to read and to write laces.
abbrev pub frames_cut : List ℕ → List ℕ → List (List ℕ)
frames_cut [] octets = []
frames_cut (size ∷ sizes) octets = take size octets ∷ frames_cut sizes (drop size octets)

-- the frames of a lace with the bytes `octets`, or damage without a valid head. The second argument is the sizes that its head stores, and the length
-- of the head, both in bytes. For `laced_frames`, when a file's blocks are read.
abbrev pub frames_behind : List ℕ → Option (List ℕ × ℕ) → Result (List (List ℕ)) Kind
frames_behind octets None = Err BadLacing
frames_behind octets (Some (sizes, head)) = Ok (frames_cut sizes (drop head octets))

-- the frames of a lace of the kind `kind`, or the kind of damage in it. A byte before its head has the number of the frames, minus one. The second
-- argument is the bytes after the header of the block. For `frames_in`, when a file's blocks are read.
abbrev pub laced_frames : Lace → List ℕ → Result (List (List ℕ)) Kind
laced_frames kind [] = Err ShortBlock
laced_frames kind (less_one ∷ octets) = frames_behind octets (lace_in kind (less_one + 1) octets)

-- the frames in `octets`, the bytes after a block's header, or the kind of damage in them. The first argument is the lacing; without lacing they are
-- one frame. For `content_in`, when a file's blocks are read.
abbrev pub frames_in : Lace → List ℕ → Result (List (List ℕ)) Kind
frames_in lace.None octets = Ok (octets ∷ [])
frames_in lace.Xiph octets = laced_frames lace.Xiph octets
frames_in lace.Fixed octets = laced_frames lace.Fixed octets
frames_in lace.Ebml octets = laced_frames lace.Ebml octets

-- ---- the whole

-- the content of a Block or SimpleBlock: track number, relative time in ticks, flags and frames. For the blocks of SimpleBlocks and BlockGroups.
pub record Content : Type 0 where
  pub track : ℕ
  pub relative : ℤ
  pub flags : ℕ
  pub frames : List (List ℕ)

-- the content of a Block or SimpleBlock with the body `octets`, given its frames, or the kind of damage in them. For `content_in`, when a file's
-- blocks are read.
abbrev pub content_with : List ℕ → Result (List (List ℕ)) Kind → Result Content Kind
content_with octets (Err kind) = Err kind
content_with octets (Ok frames) = Ok (record { track = track_in octets; relative = relative_in octets; flags = flags_in octets; frames = frames })

-- the content that `octets`, the bytes of a Block or SimpleBlock, encode, or the kind of their damage. For `simple_block` and `group_among`, when a
-- file's blocks are read.
unfoldable pub content_in : List ℕ → Result Content Kind
content_in octets =
    if has_no_header octets then Err ShortBlock else content_with octets (frames_in (lace_of (flags_in octets)) (data_in octets))
