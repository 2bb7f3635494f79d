-- The bytes of a block: RFC 9559, sections 5.1.3 (Cluster Element), 10.1 (Block Structure), 10.2 (SimpleBlock Structure) and 10.3 (Block Lacing).
use Rattle.std.specs.Prelude.{ℕ, ◌+◌, ◌-◌, Bool, if◌then◌else◌, ℤ, pos, ◌-ℤ◌, List, [], ◌∷◌, ◌++◌, length, map, Option, None, Some}
use Rattle.std.specs.List.{concat}
use Rattle.ebml_numbers.specs.Number.{int_octets, int_octets_in}
use Rattle.mkv_schema.specs.declared.ids.TheConstants.{SIMPLE_BLOCK, BLOCK_GROUP, BLOCK, BLOCK_DURATION, REFERENCE_BLOCK}
use Rattle.lacing.specs.declared.kind.Lace.{Lace}
use Rattle.lacing.specs.declared.kind.Lace.TheVariants as lace
use Rattle.lacing.specs.Writing.{lace_head}
use Rattle.output_model.specs.Element.{Element, element, uint_element, joined}
use Rattle.output_model.specs.OutputBlock.{OutputBlock}

-- ---- the flags

-- the bit `value` of the flags in a Block's header if `set`, and 0 otherwise; a term of `block_flags` and `simple_block_flags`
abbrev pub flag : ℕ → Bool → ℕ
flag value set = if set then value else 0

-- the two bits of the given lacing in the flags of a Block or SimpleBlock; for `block_flags`
abbrev pub lace_bits : Lace → ℕ
lace_bits lace.None = 0x00
lace_bits lace.Xiph = 0x02
lace_bits lace.Fixed = 0x04
lace_bits lace.Ebml = 0x06

-- the flags in the Block of the block `b`, which is in a BlockGroup: whether it is invisible, and its lacing. A SimpleBlock has them too. Used by
-- `simple_block_flags` and `flags_of`.
abbrev pub block_flags : OutputBlock → ℕ
block_flags b = flag 0x08 b.invisible + lace_bits b.lace

-- the flags in the header of the block `b` as a SimpleBlock: whether it is a keyframe, may be discarded, is invisible, and its lacing; for `flags_of`
abbrev pub simple_block_flags : OutputBlock → ℕ
simple_block_flags b = flag 0x80 b.key + flag 0x01 b.discardable + block_flags b

-- the byte of flags in the header of the block `b`, which is in a BlockGroup or a SimpleBlock; for `block_header`
abbrev pub flags_of : OutputBlock → ℕ
flags_of b = if b.group then block_flags b else simple_block_flags b

-- ---- the frames

-- the start of the lace of frames with the sizes `sizes` in bytes: their number minus one, and then the sizes, as the lacing `kind` codes them. Used
-- by `lace_octets` and others.
abbrev pub count_and_head : Lace → List ℕ → List ℕ
count_and_head kind sizes = (length sizes - 1) ∷ lace_head kind sizes

-- the bytes between the header and the frames of a block with the given lacing, whose frames have the sizes `sizes` in bytes; without lacing there
-- are none. Used by `frame_octets` and others.
abbrev pub lace_octets : Lace → List ℕ → List ℕ
lace_octets lace.None sizes = []
lace_octets lace.Xiph sizes = count_and_head lace.Xiph sizes
lace_octets lace.Fixed sizes = count_and_head lace.Fixed sizes
lace_octets lace.Ebml sizes = count_and_head lace.Ebml sizes

-- the bytes of a block after its header: the lace of the kind `kind`, and then the frames `frames`; for `block_octets`
abbrev pub frame_octets : Lace → List (List ℕ) → List ℕ
frame_octets kind frames = lace_octets kind (map length frames) ++ concat frames

-- ---- the Block, in a Cluster with the Timestamp `timestamp`

-- the signed number of ticks from the Timestamp of the Cluster, `timestamp` in ticks, to the block `b`, for the header of the Block; for
-- `block_header`
abbrev pub relative_to : ℕ → OutputBlock → ℤ
relative_to timestamp b = pos b.tick -ℤ pos timestamp

-- the header of the block `b` in a Cluster with the Timestamp `timestamp` in ticks. It has the track number in one byte, the relative time in two,
-- and the flags. Used by `block_octets` and the contract of `add_headers`.
abbrev pub block_header : ℕ → OutputBlock → List ℕ
block_header timestamp b = (0x80 + b.lane) ∷ int_octets_in 2 (relative_to timestamp b) ++ flags_of b ∷ []

-- the content of the Block or SimpleBlock for the block `b` in a Cluster with the Timestamp `timestamp` in ticks. Used by `group_elements`,
-- `block_element` and others.
abbrev pub block_octets : ℕ → OutputBlock → List ℕ
block_octets timestamp b = block_header timestamp b ++ frame_octets b.lace b.frames

-- ---- the Element of a block

-- the BlockDuration of the given number of ticks for a BlockGroup, or no Element if there is none. Used by `group_elements` and others.
abbrev pub duration_elements : Option ℕ → List Element
duration_elements None = []
duration_elements (Some ticks) = uint_element BLOCK_DURATION ticks ∷ []

-- the ReferenceBlock for a reference from a block of a BlockGroup to a block `ticks` ticks after it, or before it if `ticks` is negative. Used by
-- `group_elements` and others.
abbrev pub reference_element : ℤ → Element
reference_element ticks = element REFERENCE_BLOCK (int_octets ticks)

-- the first children of the BlockGroup for the block `b`: its Block, its BlockDuration if there is one, and its ReferenceBlocks. `timestamp` is the
-- Timestamp of its Cluster in ticks. Used by `group_octets`.
abbrev pub group_elements : ℕ → OutputBlock → List Element
group_elements timestamp b =
    element BLOCK (block_octets timestamp b) ∷ duration_elements b.duration ++ map reference_element b.references

-- the content of the BlockGroup for the block `b`: Block, BlockDuration and ReferenceBlocks, then the kept bytes of its other children. `timestamp`
-- is the Timestamp of its Cluster in ticks. Used by `block_element` and the contract of `add_group`.
abbrev pub group_octets : ℕ → OutputBlock → List ℕ
group_octets timestamp b = joined (group_elements timestamp b) ++ b.kept

-- the Element that is written for the block `b` in a Cluster with the Timestamp `timestamp` in ticks: a BlockGroup or a SimpleBlock. Used by
-- `block_elements`, `points_in` and others.
abbrev pub block_element : ℕ → OutputBlock → Element
block_element timestamp b =
    if b.group then element BLOCK_GROUP (group_octets timestamp b) else element SIMPLE_BLOCK (block_octets timestamp b)
