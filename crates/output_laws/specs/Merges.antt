-- Output tracks are kept by a merge, and outputs can be read.
use Rattle.std.specs.Prelude.{◌≡◌, ◌≤◌, ℕ, false, List, [], ◌∷◌, length, flat_map, All, Option, Ok}
use Rattle.ebml_numbers.specs.Number.{AreOctets}
use Rattle.mkv_schema.specs.declared.element.Header.{Header}
use Rattle.mkv_schema.specs.Element.{stated_end}
use Rattle.block_format.specs.Block.{Block}
use Rattle.block_format.specs.Elements.{Rules, with_limits}
use Rattle.block_format.specs.Events.{found_at, events_of, blocks_of}
use Rattle.file_format.specs.Info.{scale_of}
use Rattle.file_format.specs.FileBlocks.{file_events}
use Rattle.output_model.specs.declared.heads.ClusterLimits.{ClusterLimits}
use Rattle.output_model.specs.OutputBlock.{OutputBlock}
use Rattle.output_model.specs.Cluster.{OutputCluster, clusters}
use Rattle.output_model.specs.Document.{Document, layout}
use Rattle.output_model.specs.Sound.{IsSoundBlock, IsSoundCluster, IsSoundDocument}
use Rattle.output_laws.specs.Places.{block_in_place}
use Rattle.output_laws.specs.Reading.{header_of_segment}
use Rattle.merge_model.specs.Links.{Placing, placed}
use Rattle.merge_model.specs.Merged.{in_lane, merged}
use Rattle.output_laws.specs.Lanes.{lanes_from, in_lanes, as_it_stands, lanes_read, blocks_read, HasNoLane}
use Rattle.output_laws.specs.WholeLists.{AreCutWhole, IsInOrder}
use Rattle.output_laws.specs.Read.{IsOfItsKind, IsReadBlock, IsPlacing, LEAST_SCALE}

-- The tracks in the merged list of the output tracks `lanes` are these output tracks, each block with its track's number. The law `lanes_are_kept`
-- states it.
abbrev pub LanesAreKept : Type 0
LanesAreKept = (lanes : List (List OutputBlock)) → lanes_from 1 (length lanes) (merged lanes) ≡ in_lanes 1 lanes

-- The merged list of the output tracks `lanes` is in order. If two blocks are on different output tracks, the one with the lower order number is
-- first, or else the one on the lower track. The law LanesAreKept states that a track keeps its order. The law `merged_is_in_order` states it.
abbrev pub MergedIsInOrder : Type 0
MergedIsInOrder = (lanes : List (List OutputBlock)) → IsInOrder (merged lanes)

-- The Clusters that the blocks `bs` are divided into within `limits` hold these blocks, in order. The law `clusters_hold_all` states it.
abbrev pub ClustersHoldAll : Type 0
ClustersHoldAll = (limits : ClusterLimits) (bs : List OutputBlock) → flat_map (λ (c : OutputCluster). c.blocks) (clusters limits bs) ≡ bs

-- A Cluster of the blocks `bs` ends if and only if the next block may not join it within `limits`. The law `clusters_are_cut` states it.
abbrev pub ClustersAreCut : Type 0
ClustersAreCut = (limits : ClusterLimits) (bs : List OutputBlock) → AreCutWhole limits (clusters limits bs)

-- A block `b` that is found in the file `bytes`, at the Element with the header `h`, has only fields of its kind. Its kept children can be written.
-- The Element must end within the file. `r` are the rules of reading, and `timestamp` is the Cluster's Timestamp in ticks, if it was read. A law of
-- the same name states it.
abbrev pub FoundBlocksAreOfTheirKind : Type 0
FoundBlocksAreOfTheirKind =
    (r : Rules) (bytes : List ℕ) (timestamp : Option ℕ) (h : Header) (b : Block) → AreOctets bytes → stated_end h ≤ length bytes
    → found_at r bytes timestamp h ≡ Ok b ∷ [] → IsOfItsKind b

-- Each block of a file that is read with limits is within these limits, and valid for its kind, SimpleBlock or BlockGroup. `scale` is the nanoseconds
-- per tick, `bytes` the file, a list of bytes, and `segment` the Segment's header. The law `file_blocks_are_read` states it.
abbrev pub FileBlocksAreRead : Type 0
FileBlocksAreRead =
    (scale : ℕ) (bytes : List ℕ) (segment : Header) → AreOctets bytes → All IsReadBlock (blocks_of (events_of (with_limits scale) bytes segment))

-- A block `b` that a reader with limits finds can be written and read back in an output. It is placed by `p`, which must be within its limits. A tick
-- has `scale` nanoseconds, at least 1000. The law `placed_blocks_are_sound` states it.
abbrev pub PlacedBlocksAreSound : Type 0
PlacedBlocksAreSound = (scale : ℕ) (p : Placing) (b : Block) → LEAST_SCALE ≤ scale → IsPlacing p → IsReadBlock b → All IsSoundBlock (placed scale p b)

-- Output tracks `lanes` of blocks that can be written are merged, and divided within `limits` into Clusters that can be written and read back. The
-- law `merged_clusters_are_sound` states it.
abbrev pub MergedClustersAreSound : Type 0
MergedClustersAreSound =
    (limits : ClusterLimits) (lanes : List (List OutputBlock)) → All (All IsSoundBlock) lanes
    → All (IsSoundCluster (length lanes)) (clusters limits (merged lanes))

-- A written block `b` is read at the offset `place`, and placed in an output with the same ticks. It is then the same block, without its output track
-- number. A tick has `scale` nanoseconds, at least 1. The law `ticks_are_kept` states it, for a repeated merge.
abbrev pub TicksAreKept : Type 0
TicksAreKept =
    (scale place : ℕ) (b : OutputBlock) → 1 ≤ scale → IsSoundBlock b
    → placed scale as_it_stands (block_in_place scale place b) ≡ in_lane 0 b ∷ []

-- A document `d` that can be written is read as the blocks `bs` that its Clusters were made from, each once and in order. `limits` are the limits of
-- a Cluster. The law `blocks_are_read_in_order` states it.
abbrev pub BlocksAreReadInOrder : Type 0
BlocksAreReadInOrder =
    (d : Document) (limits : ClusterLimits) (bs : List OutputBlock) → IsSoundDocument d → d.clusters ≡ clusters limits bs
    → blocks_read (scale_of d.front.info) (file_events false (layout d) (header_of_segment d)) ≡ bs

-- The tracks that are read from the document `d`, which can be written, are the output tracks `lanes` that were merged into it. The blocks of `lanes`
-- have no track number yet. `limits` are the limits of a Cluster. The law `lanes_are_read_again` states it.
abbrev pub LanesAreReadAgain : Type 0
LanesAreReadAgain =
    (d : Document) (limits : ClusterLimits) (lanes : List (List OutputBlock)) → IsSoundDocument d → d.clusters ≡ clusters limits (merged lanes)
    → All (All HasNoLane) lanes
    → lanes_read (scale_of d.front.info) 1 (length lanes) (file_events false (layout d) (header_of_segment d)) ≡ lanes

-- The tracks that are read from the document `d` are merged and divided into the same Clusters again, within the same `limits`. `d` can be written,
-- and `lanes` are the output tracks that it was merged from. Their blocks have no track number yet. The law `clusters_are_cut_again` states it.
abbrev pub ClustersAreCutAgain : Type 0
ClustersAreCutAgain =
    (d : Document) (limits : ClusterLimits) (lanes : List (List OutputBlock)) → IsSoundDocument d → d.clusters ≡ clusters limits (merged lanes)
    → All (All HasNoLane) lanes
    → clusters limits (merged (lanes_read (scale_of d.front.info) 1 (length lanes) (file_events false (layout d) (header_of_segment d)))) ≡ d.clusters
