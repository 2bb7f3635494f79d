-- Laws about outputs that are cut by size, by this project's rules.
use Rattle.std.specs.Prelude.{◌≡◌, ◌<◌, ◌≤◌, ⊤, ℕ, ◌^◌, Bool, true, List, [], ◌∷◌, length, take, Option, Some}
use Rattle.std.specs.List.{All, slice_get, sum_by}
use Rattle.output_model.specs.Element.{joined, octets_of}
use Rattle.output_model.specs.declared.heads.ClusterLimits.{ClusterLimits}
use Rattle.output_model.specs.OutputBlock.{OutputBlock}
use Rattle.output_model.specs.Block.{block_element}
use Rattle.output_model.specs.Cluster.{OutputCluster, block_elements, clusters}
use Rattle.cluster_writer.specs.Lengths.{octets_taken}
use Rattle.splitter.specs.declared.spec.SplitSpec.TheVariants.{Whole}
use Rattle.splitter.specs.Load.{load}
use Rattle.splitter.specs.Sections.{Part, Section, Split, in_part, may_cut, part_of, parts, sections}
use Rattle.splitter.specs.Steps.{new_cuts}
use Rattle.splitter.specs.Laws.{all_placed}

-- the rule for cuts by size only. Parts end at `limit` bytes, a tick has `scale` nanoseconds, and keyframes of the output tracks `drives` allow a
-- cut. The laws on parts that are cut by size use it.
abbrev pub by_size : ℕ → ℕ → (ℕ → Bool) → Split
by_size limit scale drives = record { spec = Whole; size = Some limit; scale = scale; drives = drives }

-- ---- step by step

-- If the place of each block is decided one by one, the blocks with their places make the sections of the merged list. The list is `b` and `bs`, and
-- parts end at `limit` bytes, below 2^64. `scale`, the nanoseconds per tick, doesn't matter for cuts by size. The law `sizes_join` states it.
abbrev pub SizesJoin : Type 0
SizesJoin =
    (limit scale : ℕ) (drives : ℕ → Bool) → limit < 2 ^ 64 → (b : OutputBlock) (bs : List OutputBlock)
    → all_placed (by_size limit scale drives) (new_cuts Whole (Some limit) 0) [] (b ∷ bs) ≡ sections (by_size limit scale drives) (b ∷ bs)

-- ---- loads

-- `P` holds for each item of the list except the last. For `PartsAreFull`, in the laws on `merge --split size:`.
abbrev pub AllButLast : {X : Type 0} → (X → Type 0) → List X → Type 0
AllButLast P [] = ⊤
AllButLast P (x ∷ []) = ⊤
AllButLast P (x ∷ (y ∷ ys)) = P x × AllButLast P (y ∷ ys)

-- The blocks of the part `p` have at least `limit` bytes. For `PartsAreFull`, in the laws on `merge --split size:`.
abbrev pub IsFull : ℕ → Part → Type 0
IsFull limit p = limit ≤ load p.blocks

-- The blocks of each part except the last have at least `limit` bytes, if the merged list `blocks` is cut by this size. A tick has `scale`
-- nanoseconds, and `drives` are the output tracks that allow a cut. The law `parts_are_full` states it.
abbrev pub PartsAreFull : Type 0
PartsAreFull =
    (limit scale : ℕ) (drives : ℕ → Bool) (blocks : List OutputBlock) → AllButLast (IsFull limit) (parts (by_size limit scale drives) blocks)

-- If the rule `s` allows a cut before a block of the part `p`, the earlier blocks of `p` have fewer than `limit` bytes. For `PartsAreSmall`, in the
-- laws on `merge --split size:`.
abbrev pub IsSmall : Split → ℕ → Part → Type 0
IsSmall s limit p = (k : ℕ) (b : OutputBlock) → slice_get p.blocks k ≡ Some b → may_cut s b ≡ true → load (take k p.blocks) < limit

-- If the merged list `blocks` is cut by the size `limit`, at least 1, no part continues with a full size over a place that allows a cut. A tick has
-- `scale` nanoseconds, and `drives` are the output tracks that allow a cut. The earlier blocks of the part have fewer than `limit` bytes there. Only
-- some keyframes allow a cut, so a whole part may be larger. The law `parts_are_small` states it.
abbrev pub PartsAreSmall : Type 0
PartsAreSmall =
    (limit scale : ℕ) (drives : ℕ → Bool) (blocks : List OutputBlock) → 1 ≤ limit
    → All (IsSmall (by_size limit scale drives) limit) (parts (by_size limit scale drives) blocks)

-- ---- as they are written

-- The Element of the block `b` has the same length in its part, which starts at the tick `start`, as in the merged list. It is the same for any
-- Timestamp of its Cluster. The law `blocks_keep_their_length` states it.
abbrev pub BlocksKeepTheirLength : Type 0
BlocksKeepTheirLength = (timestamp start : ℕ) (b : OutputBlock) → length (octets_of (block_element timestamp (in_part start b))) ≡ octets_taken b

-- The blocks of a part have the same number of bytes as the blocks of its section `x` of the merged list, between two cuts. The next section starts
-- at the tick `end`, if there is one. The law `parts_keep_their_load` states it.
abbrev pub PartsKeepTheirLoad : Type 0
PartsKeepTheirLoad = (x : Section) (end : Option ℕ) → load (part_of x end).blocks ≡ load x.blocks

-- the number of bytes of the SimpleBlocks and BlockGroups of the Cluster `c`. For `LoadsAreWritten`, in the laws on `merge --split size:`.
abbrev pub blocks_len : OutputCluster → ℕ
blocks_len c = length (joined (block_elements c.timestamp c.blocks))

-- The load of `blocks` is the number of bytes of their SimpleBlocks and BlockGroups in the written Clusters, however `limits` divides them into
-- Clusters. The law `loads_are_written` states it.
abbrev pub LoadsAreWritten : Type 0
LoadsAreWritten = (limits : ClusterLimits) (blocks : List OutputBlock) → sum_by blocks_len (clusters limits blocks) ≡ load blocks
