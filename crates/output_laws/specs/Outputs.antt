-- Written blocks and Clusters are read back, and blocks that were read can be written again.
use Rattle.std.specs.Prelude.{◌≡◌, ◌≤◌, ℕ, ◌+◌, Bool, List, [], ◌∷◌, length, map, All, Option, Some, None, Ok}
use Rattle.ebml_numbers.specs.Number.{AreOctets}
use Rattle.mkv_schema.specs.declared.element.Header.{Header}
use Rattle.mkv_schema.specs.Element.{stated_end}
use Rattle.mkv_schema.specs.Outline.{segment_run}
use Rattle.lacing.specs.declared.kind.Lace.{Lace}
use Rattle.lacing.specs.Writing.{CanLace}
use Rattle.block_format.specs.Block.{Block}
use Rattle.block_format.specs.Elements.{Rules, without_limits, block_group}
use Rattle.block_format.specs.Events.{found_at, found_in, events_of}
use Rattle.output_laws.specs.Blocks.{CanBeLaced}
use Rattle.output_model.specs.Element.{HoldsAt, header_of, octets_of, joined, header_in_place, headers_in_place}
use Rattle.output_model.specs.declared.TheConstants.{MAX_LANES, MAX_PREFIX_LEN}
use Rattle.output_model.specs.OutputBlock.{OutputBlock, prefixed}
use Rattle.output_model.specs.Block.{block_element}
use Rattle.output_model.specs.Cluster.{OutputCluster, cluster_element}
use Rattle.output_model.specs.Cues.{points_from}
use Rattle.output_model.specs.Sound.{IsSoundIn, IsSoundCluster, AreKept}
use Rattle.output_laws.specs.Places.{HasSize, block_in_place, found_blocks, block_events, cluster_blocks, OutputSegment, segment_elements, segment_element, IsSoundSegment, segment_blocks}
use Rattle.output_laws.specs.Points.{PointsAtBlock}

-- A block `b` that can be written is read as that block, at any offset `p` of a content, after its Cluster's Timestamp. `scale` is the nanoseconds
-- per tick, and `timestamp` that Timestamp in ticks. The size of its Element must fit into eight bytes. The law `blocks_are_read` states it.
abbrev pub BlocksAreRead : Type 0
BlocksAreRead =
    (scale : ℕ) (bytes : List ℕ) (timestamp : ℕ) (b : OutputBlock) (p : ℕ) → IsSoundIn MAX_LANES timestamp b → HasSize (block_element timestamp b)
    → HoldsAt bytes p (octets_of (block_element timestamp b))
    → found_at (without_limits scale) bytes (Some timestamp) (header_in_place p (block_element timestamp b)) ≡ Ok (block_in_place scale p b) ∷ []

-- A Cluster `c` that can be written gives its blocks, at any offset `p` of the content `bytes`, with any bytes after it. `scale` is the nanoseconds
-- per tick, and `e` the offset of the end of its Segment. Its size must fit into eight bytes. The law `clusters_are_read` states it.
abbrev pub ClustersAreRead : Type 0
ClustersAreRead =
    (scale : ℕ) (bytes : List ℕ) (c : OutputCluster) (p e : ℕ) → IsSoundCluster MAX_LANES c → HasSize (cluster_element c)
    → HoldsAt bytes p (octets_of (cluster_element c)) → p + length (octets_of (cluster_element c)) ≤ e
    → found_in (without_limits scale) bytes e (header_in_place p (cluster_element c)) ≡ found_blocks (cluster_blocks scale p c)

-- The Segment `s` at the offset `p` of the content `bytes` is read as it was written. Its Elements are the Elements of level 1, and its blocks are
-- the blocks of its Clusters, without damage. `scale` is the nanoseconds per tick. The law `segments_are_read` states it of each Segment that can be
-- written.
pub record SegmentIsRead (scale : ℕ) (bytes : List ℕ) (s : OutputSegment) (p : ℕ) : Type 0 where
  pub level_1 : (segment_run bytes (header_in_place p (segment_element s))).list ≡ headers_in_place (p + length (header_of (segment_element s))) (segment_elements s)
  pub unbroken : (segment_run bytes (header_in_place p (segment_element s))).damage ≡ None
  pub events : events_of (without_limits scale) bytes (header_in_place p (segment_element s)) ≡ block_events (segment_blocks scale p s)

-- A Segment `s` that can be written is read as it was written, at the offset `p` of the content `bytes`. `scale` is the nanoseconds per tick. The law
-- `segments_are_read` states it.
abbrev pub SegmentsAreRead : Type 0
SegmentsAreRead =
    (scale : ℕ) (bytes : List ℕ) (s : OutputSegment) (p : ℕ) → IsSoundSegment s → HoldsAt bytes p (octets_of (segment_element s))
    → SegmentIsRead scale bytes s p

-- The cue point of each block of a Segment `s` that can be written points at that block. `cued` chooses the blocks with a cue point. `p` is the
-- Segment's offset in the content `bytes`, and `scale` the nanoseconds per tick. The law `points_are_read` states it.
abbrev pub PointsAreRead : Type 0
PointsAreRead =
    (scale : ℕ) (bytes : List ℕ) (cued : OutputBlock → Bool) (s : OutputSegment) (p : ℕ) → IsSoundSegment s → HoldsAt bytes p (octets_of (segment_element s))
    → All (PointsAtBlock scale bytes (header_in_place p (segment_element s))) (points_from cued (length (joined s.front)) s.clusters)

-- The kept children of a BlockGroup that was read can be written, and read again. `b` is its block, `h` its header in the file `bytes`, and
-- `timestamp` its Cluster's Timestamp in ticks, if it was read. `r` are the rules of reading. The group must end within the file. The law
-- `kept_can_be_written` states it.
abbrev pub KeptCanBeWritten : Type 0
KeptCanBeWritten =
    (r : Rules) (bytes : List ℕ) (timestamp : Option ℕ) (h : Header) (b : Block) → AreOctets bytes → stated_end h ≤ length bytes
    → block_group r bytes timestamp h ≡ Ok b → AreKept b.kept

-- The frames `frames`, which were read with a reader's limits, can be laced as they were by `kind`. Before each is `prefix`, of at most 4,096 bytes.
-- The law `frames_can_be_written` states it.
abbrev pub FramesCanBeWritten : Type 0
FramesCanBeWritten =
    (kind : Lace) (prefix : List ℕ) (frames : List (List ℕ)) → CanBeLaced kind (map length frames) → length prefix ≤ MAX_PREFIX_LEN
    → CanLace kind (map length (prefixed prefix frames))
