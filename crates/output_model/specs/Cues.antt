-- Cue points: RFC 9559, sections 5.1.5 (Cues Element) and 16 (Segment Position), and its chapter on Cues.
use Rattle.std.specs.Prelude.{ℕ, ◌+◌, Bool, if◌then◌else◌, List, [], ◌∷◌, ◌++◌, length, map}
use Rattle.mkv_schema.specs.declared.ids.TheConstants.{CUES, CUE_POINT, CUE_TIME, CUE_TRACK_POSITIONS, CUE_TRACK, CUE_CLUSTER_POSITION, CUE_RELATIVE_POSITION}
use Rattle.output_model.specs.Element.{Element, uint_element, master_element, octets_of}
use Rattle.output_model.specs.declared.places.CuePoint.{CuePoint}
use Rattle.output_model.specs.OutputBlock.{OutputBlock}
use Rattle.output_model.specs.Block.{block_element}
use Rattle.output_model.specs.Cluster.{OutputCluster, timestamp_element, cluster_element}

-- ---- the points of blocks

-- the cue point for the block `b`. Its Cluster is at the offset `cluster` in the Segment's content, and its Element at the offset `relative` in the
-- Cluster's, both in bytes. Used by `points_in`.
abbrev pub point_of : ℕ → ℕ → OutputBlock → CuePoint
point_of cluster relative b = record { tick = b.tick; lane = b.lane; cluster = cluster; relative = relative }

-- the cue point `point` as a list of one, if its block gets one (`cued`), and otherwise no point; for `points_in`
abbrev pub points_where : Bool → CuePoint → List CuePoint
points_where cued point = if cued then point ∷ [] else []

-- the cue points of the given blocks of one Cluster that pass the test `cued`. The Cluster is at the offset `cluster` in the Segment's content and
-- has the Timestamp `timestamp`. The first block is at the offset `relative` in the Cluster's content. Used by `cluster_points`.
abbrev pub points_in : (OutputBlock → Bool) → ℕ → ℕ → ℕ → List OutputBlock → List CuePoint
points_in cued cluster timestamp relative [] = []
points_in cued cluster timestamp relative (b ∷ bs) =
    points_where (cued b) (point_of cluster relative b)
    ++ points_in cued cluster timestamp (relative + length (octets_of (block_element timestamp b))) bs

-- the cue points of the blocks of the Cluster `c` that pass the test `cued`; `c` is at the offset `cluster` in the Segment's content. The blocks
-- follow its Timestamp. Used by `points_from`.
abbrev pub cluster_points : (OutputBlock → Bool) → ℕ → OutputCluster → List CuePoint
cluster_points cued cluster c = points_in cued cluster c.timestamp (length (octets_of (timestamp_element c.timestamp))) c.blocks

-- the cue points of the blocks that pass the test `cued`, in Clusters in sequence, the first at the offset `cluster` in the Segment's content; an
-- output's Cues have them. Used by `PointsAreRead` and `cues_for`.
abbrev pub points_from : (OutputBlock → Bool) → ℕ → List OutputCluster → List CuePoint
points_from cued cluster [] = []
points_from cued cluster (c ∷ cs) = cluster_points cued cluster c ++ points_from cued (cluster + length (octets_of (cluster_element c))) cs

-- ---- their bytes

-- the CueTrackPositions of the cue point `p`: its output track, and the offsets of its Cluster and its block. Outputs and `reindex` write it.
abbrev pub positions_element : CuePoint → Element
positions_element p = master_element CUE_TRACK_POSITIONS
    (uint_element CUE_TRACK p.lane ∷ uint_element CUE_CLUSTER_POSITION p.cluster ∷ uint_element CUE_RELATIVE_POSITION p.relative ∷ [])

-- the CuePoint Element of the cue point `p`: its tick and its CueTrackPositions. Outputs and `reindex` write it.
abbrev pub point_element : CuePoint → Element
point_element p = master_element CUE_POINT (uint_element CUE_TIME p.tick ∷ positions_element p ∷ [])

-- the Cues Element with the given cue points as an output or a file after `reindex` has it, or no Element without cue points
abbrev pub cues_elements : List CuePoint → List Element
cues_elements [] = []
cues_elements (p ∷ ps) = master_element CUES (map point_element (p ∷ ps)) ∷ []
