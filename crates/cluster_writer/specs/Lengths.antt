-- Lengths of written blocks, as the code computes them.
use Rattle.std.specs.Prelude.{ℕ, ℤ, ◌+◌, if◌then◌else◌, List, ◌++◌, length, map, sum, Option}
use Rattle.lacing.specs.declared.kind.Lace.{Lace}
use Rattle.mkv_schema.specs.declared.ids.TheConstants.{SIMPLE_BLOCK, BLOCK_GROUP, BLOCK}
use Rattle.tree_format.specs.NormalForm.{header_octets}
use Rattle.output_model.specs.Element.{octets_of, joined}
use Rattle.output_model.specs.declared.heads.OutHead.{OutHead}
use Rattle.output_model.specs.OutputBlock.{OutputBlock}
use Rattle.output_model.specs.Block.{lace_octets, duration_elements, reference_element, block_element}

-- the length in bytes of the SimpleBlock or BlockGroup for the block `b`, the same in each Cluster. The limits of a Cluster and the sizes of the
-- parts of `merge` count it.
abbrev pub octets_taken : OutputBlock → ℕ
octets_taken b = length (octets_of (block_element b.tick b))

-- ---- lengths of the parts

-- the sizes in bytes of frames that have the sizes `sizes` without a prefix of `prefix` bytes each. A lace stores them so. Used by `block_len`,
-- `prefixed_total` and others.
abbrev pub prefixed_sizes : ℕ → List ℕ → List ℕ
prefixed_sizes prefix sizes = map (λ size. prefix + size) sizes

-- the length in bytes of a Block with the lacing `kind` and frames of the sizes `sizes` in bytes, prefixes included. It has 4 bytes of header, the
-- lace and the frames. `merge` measures a block by it before it is put into a Cluster.
abbrev pub block_len : Lace → List ℕ → ℕ
block_len kind sizes = 4 + length (lace_octets kind sizes) + sum sizes

-- the length in bytes of the BlockDuration Element, for a duration in ticks, or 0 without one. A part of a BlockGroup's length. Used by
-- `add_duration` and `behind_len`.
abbrev pub duration_len : Option ℕ → ℕ
duration_len duration = length (joined (duration_elements duration))

-- the length in bytes of the ReferenceBlock Elements for the references of a block, in ticks. A part of a BlockGroup's length. Used by
-- `add_references` and `behind_len`.
abbrev pub references_len : List ℤ → ℕ
references_len references = length (joined (map reference_element references))

-- the length in bytes of an Element with the ID `id` and `len` bytes of content. Used for all lengths of written Elements.
abbrev pub whole_len : ℕ → ℕ → ℕ
whole_len id len = length (header_octets id len) + len

-- the length in bytes of a group's children after its Block; `kept` is the number of bytes of kept children. `duration` and `references` are in
-- ticks. Used by `group_len`, while `merge` fills a Cluster.
abbrev pub behind_len : Option ℕ → List ℤ → ℕ → ℕ
behind_len duration references kept = duration_len duration + references_len references + kept

-- the number of bytes of content of a BlockGroup with a Block of `block` bytes and the duration of `head`. `references` are in ticks, and `kept` is
-- the number of bytes of kept children. A contract states it of the function of the same name.
abbrev pub group_len : OutHead → ℕ → List ℤ → ℕ → ℕ
group_len head block references kept = whole_len BLOCK block + behind_len head.duration references kept

-- the number of bytes of content of the SimpleBlock or BlockGroup for a block with the head `head`. Its Block has `block` bytes, `references` are in
-- ticks, and `kept` bytes are kept children. The contract of `lengths_of` states it.
abbrev pub body_len : OutHead → ℕ → List ℤ → ℕ → ℕ
body_len head block references kept = if head.group then group_len head block references kept else block

-- the bytes of the children after the Block in the group of the block `b`. `add_behind` appends them, while `merge` fills a Cluster.
abbrev pub behind_octets : OutputBlock → List ℕ
behind_octets b = joined (duration_elements b.duration ++ map reference_element b.references) ++ b.kept

-- the length in bytes of a block's SimpleBlock or BlockGroup, if the frame sizes `sizes` include the prefix; `kept` bytes are kept children. The head
-- `head` has the kind and the lacing, and `references` are in ticks. Used by `taken_len`, while `merge` fills a Cluster.
abbrev pub sized_len : OutHead → List ℕ → List ℤ → ℕ → ℕ
sized_len head sizes references kept =
    let block = block_len head.lace sizes in
    if head.group then whole_len BLOCK_GROUP (group_len head block references kept) else whole_len SIMPLE_BLOCK block

-- the length in bytes of a block's SimpleBlock or BlockGroup, if frames of the sizes `sizes` have a prefix of `prefix` bytes each. `kept` bytes are
-- kept children. `head` and `references` are as in `sized_len`. The contract of `lengths_of` states it.
abbrev pub taken_len : OutHead → ℕ → List ℕ → List ℤ → ℕ → ℕ
taken_len head prefix sizes references kept = sized_len head (prefixed_sizes prefix sizes) references kept
