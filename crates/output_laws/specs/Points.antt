-- The target of a cue point: RFC 9559, section 5.1.5 (Cues Element), and its chapter on Cues.
use Rattle.std.specs.Prelude.{◌≡◌, ℕ, ◌+◌, pos, List, Contains, Ok}
use Rattle.mkv_schema.specs.declared.ids.TheConstants.{CLUSTER}
use Rattle.mkv_schema.specs.declared.element.Header.{Header}
use Rattle.mkv_schema.specs.Element.{in_segment, element_at}
use Rattle.mkv_schema.specs.Outline.{segment_bound}
use Rattle.block_format.specs.Block.{Block, nanoseconds}
use Rattle.block_format.specs.Elements.{without_limits}
use Rattle.block_format.specs.Events.{found_in}
use Rattle.output_model.specs.declared.places.CuePoint.{CuePoint}

-- The cue point `point` points at the block `block` in the Cluster with the header `cluster`. Its position in the Segment is the Cluster's, and its
-- position in the Cluster is the block's. Track number and tick are the block's. `scale` is the nanoseconds per tick, `bytes` the file, and `segment`
-- its Segment's header. Used by `PointsAtBlock`, in the laws on what `merge` writes.
pub record PointsAt (scale : ℕ) (bytes : List ℕ) (segment : Header) (point : CuePoint) (cluster : Header) (block : Block) : Type 0 where
  pub stands : element_at in_segment bytes (segment.body + point.cluster) (segment_bound bytes segment) ≡ Ok cluster
  pub is_cluster : cluster.id ≡ CLUSTER
  pub found : Contains (found_in (without_limits scale) bytes (segment_bound bytes segment) cluster) (Ok block)
  pub place : block.offset ≡ cluster.body + point.relative
  pub track : block.track ≡ point.lane
  pub time : block.time ≡ nanoseconds scale (pos point.tick)

-- The cue point `point` points at a block in the content `bytes`; `scale` is the nanoseconds per tick, and `segment` the Segment's header. The law
-- `points_are_read` and `IsReadAs` state it of each cue point of an output.
abbrev pub PointsAtBlock : ℕ → List ℕ → Header → CuePoint → Type 0
PointsAtBlock scale bytes segment point = (cluster : Header) × (block : Block) × PointsAt scale bytes segment point cluster block
