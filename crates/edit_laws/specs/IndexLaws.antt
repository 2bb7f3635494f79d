-- Laws on a new index and the file that it is made for: RFC 9559, sections 5.1.5 (Cues Element), 11 (Timestamps) and 16 (Segment Position).
use Rattle.std.specs.Prelude.{◌≡◌, ◌≤◌, ◌+◌, ◌/◌, ℕ, pos, true, List, [], ◌++◌, length, map, filter, filter_map, flat_map, take, None, Some, Ok}
use Rattle.std.specs.List.{All, AllZip, Contains}
use Rattle.std.specs.Option.{option_map}
use Rattle.ebml_numbers.specs.Number.{AreOctets}
use Rattle.mkv_schema.specs.declared.ids.TheConstants.{CHAPTERS, CLUSTER, INFO, SEEK_HEAD, TAGS, TRACKS}
use Rattle.mkv_schema.specs.declared.limits.TheConstants.{MAX_ELEMENTS}
use Rattle.mkv_io.specs.declared.outside.TheConstants.{LONGEST_FILE}
use Rattle.mkv_schema.specs.declared.element.Header.{Header}
use Rattle.mkv_schema.specs.Element.{in_segment, element_at}
use Rattle.mkv_schema.specs.Outline.{ebml_header, segment_bound, segment_of, segment_run}
use Rattle.mkv_schema.specs.Value.{body_of, first_of}
use Rattle.element_reader.specs.Outline.{FileOutline}
use Rattle.tree_format.specs.Node.{Node, children}
use Rattle.tree_format.specs.NormalForm.{octets}
use Rattle.file_format.specs.Info.{file_scale}
use Rattle.file_format.specs.FileBlocks.{file_events}
use Rattle.block_format.specs.Block.{Block, nanoseconds}
use Rattle.block_format.specs.Elements.{Rules, with_limits, without_limits}
use Rattle.block_format.specs.Events.{blocks_of, damages_of, events_of, found_in}
use Rattle.output_model.specs.Ticks.{since_start}
use Rattle.output_model.specs.declared.TheConstants.{MAX_CUES}
use Rattle.output_model.specs.declared.places.CuePoint.{CuePoint}
use Rattle.output_model.specs.declared.places.Seek.{Seek}
use Rattle.output_model.specs.Element.{joined}
use Rattle.output_model.specs.SeekHead.{seek_element}
use Rattle.output_laws.specs.Points.{PointsAtBlock}
use Rattle.output_laws.specs.Reading.{CuesAre}
use Rattle.meta_records.specs.Attached.{first_attached}
use Rattle.meta_records.specs.Records.{first_tree}
use Rattle.sidecar_edit.specs.Writes.{applied}
use Rattle.edit_changes.specs.Plan.{seek_to}
use Rattle.edit_changes.specs.Records.{EditableFile}
use Rattle.edit_changes.specs.SeekHead.{stays}
use Rattle.edit_laws.specs.Laws.{IsOutside, attached_data}
use Rattle.reindex.specs.Index.{indexable}
use Rattle.reindex.specs.Plan.{Index, index_ids, index_of}
use Rattle.reindex.specs.Points.{cluster_before, index_points, indexed_tracks, is_indexed, point_in}

-- The block `b` is inside `cluster`, a Cluster of the Segment `segment` in the content `bytes`, read by the rules `r`. No other Cluster begins
-- between the start of `cluster` and `b`. The laws on cue points cite it.
pub record StandsIn (r : Rules) (bytes : List ℕ) (segment : Header) (b : Block) (cluster : Header) : Type 0 where
  pub before : cluster_before b.offset (segment_run bytes segment).list ≡ Some cluster
  pub is_cluster : cluster.id ≡ CLUSTER
  pub behind : segment.body ≤ cluster.offset
  pub place : element_at in_segment bytes cluster.offset (segment_bound bytes segment) ≡ Ok cluster
  pub found : Contains (found_in r bytes (segment_bound bytes segment) cluster) (Ok b)
  pub inside : cluster.body ≤ b.offset

-- Law on `reindex`: each block of a file, damaged or not, is inside the last Cluster that begins before it. `bytes` is the content of the file with
-- the Segment `segment`, and `r` are the rules for reading it.
abbrev pub BlocksStandInClusters : Type 0
BlocksStandInClusters =
    (r : Rules) (bytes : List ℕ) (segment : Header)
    → All (λ (b : Block). (cluster : Header) × StandsIn r bytes segment b cluster) (blocks_of (events_of r bytes segment))

-- Law on `reindex`: the timestamp of a block that isn't before the start is a whole number of ticks, by the scale of the rules `r`. `bytes` is the
-- content of the file with the Segment `segment`.
abbrev pub TimesAreTicks : Type 0
TimesAreTicks =
    (r : Rules) (bytes : List ℕ) (segment : Header) → 1 ≤ r.scale
    → All (λ (b : Block). (t : ℕ) → since_start b.time ≡ Some t → b.time ≡ nanoseconds r.scale (pos (t / r.scale))) (blocks_of (events_of r bytes segment))

-- Law on `reindex`: in a file with the content `bytes` that can get a new index, a reader without limits finds the same blocks and damage as a reader
-- with limits. `f` is what was read of the file. Both read at its scale.
abbrev pub LimitsHideNothing : Type 0
LimitsHideNothing =
    (bytes : List ℕ) (f : EditableFile) → indexable bytes ≡ Ok f
    → events_of (without_limits (file_scale bytes f.outline.segment)) bytes f.outline.segment ≡ file_events true bytes f.outline.segment

-- the blocks that get a cue point from `reindex`, in a file with the content `bytes` and the Segment `segment`; `tracks` has the children of its
-- Tracks
abbrev pub indexed_blocks : List ℕ → Header → List Node → List Block
indexed_blocks bytes segment tracks = filter (is_indexed (indexed_tracks tracks)) (blocks_of (file_events true bytes segment))

-- `p` is the cue point that `reindex` makes for the block `b`, in the Cluster that contains it. The file has the content `bytes` and the Segment
-- `segment`.
pub record IsPointOf (bytes : List ℕ) (segment : Header) (b : Block) (p : CuePoint) : Type 0 where
  pub cluster : Header
  pub stands : StandsIn (with_limits (file_scale bytes segment)) bytes segment b cluster
  pub point : p ≡ point_in (file_scale bytes segment) segment.body b cluster

-- Law on `reindex`: the cue points of a file with the content `bytes` belong to its first indexed blocks, at most MAX_CUES, one to each, in the order
-- of the file. `tracks` are the children of the Tracks of its Segment `segment`.
abbrev pub EachBlockHasItsPoint : Type 0
EachBlockHasItsPoint =
    (bytes : List ℕ) (segment : Header) (tracks : List Node)
    → AllZip (IsPointOf bytes segment) (take MAX_CUES (indexed_blocks bytes segment tracks)) (index_points bytes segment tracks)

-- Law on `reindex`: each cue point of a file with the content `bytes` that can get a new index points at a block of the file. `f` is what was read of
-- it.
abbrev pub PointsPointAtBlocks : Type 0
PointsPointAtBlocks =
    (bytes : List ℕ) (f : EditableFile) → indexable bytes ≡ Ok f
    → All (PointsAtBlock (file_scale bytes f.outline.segment) bytes f.outline.segment) (index_points bytes f.outline.segment f.trees.tracks)

-- the Seeks of the first Elements of `list` with the IDs `ids`, in this order, without IDs that have none. The Segment's data begins at the offset
-- `base`. A SeekHead after `reindex` begins with them.
abbrev pub first_seeks : List ℕ → ℕ → List Header → List Seek
first_seeks ids base list = filter_map (λ id. option_map (seek_to base) (first_of id list)) ids

-- The first SeekHead of the file `new` is rewritten by `reindex`. The file had the content `old` before; `was` and `now` are its old and new Segment.
-- The SeekHead has a Seek of the first Element with each of `ids`. Then follow the children of the old SeekHead, except Seeks of `ids`.
pub record HasSeeksOf (ids : List ℕ) (old new : List ℕ) (was now : Header) : Type 0 where
  pub header : Header
  pub first : first_of SEEK_HEAD (segment_run new now).list ≡ Some header
  pub old_head : Node
  pub read : first_tree SEEK_HEAD old was ≡ Ok (Some old_head)
  pub body : body_of new header
      ≡ joined (map seek_element (first_seeks ids now.body (segment_run new now).list)) ++ flat_map octets (filter (stays ids) (children old_head))

-- The file `new` with a new index holds the content of `old`, which was read as `f`. The EBML header, the first Info, Tracks, Chapters and Tags, and
-- the blocks are the old ones, at their places. So are the attached files, with their data. The Cues has the points `points`, and each points at its
-- block. The SeekHead has a Seek of the first Info, Tracks, Attachments, Cues, Chapters and Tags. There is no damage. The file can be indexed again,
-- if `old` has room for two more Elements at level 1. It is the conclusion of the law on `reindex`.
pub record HoldsIndex (old new : List ℕ) (f : EditableFile) (points : List CuePoint) : Type 0 where
  pub segment : Header
  pub ebml : ebml_header new ≡ Ok f.outline.ebml
  pub found : segment_of new f.outline.ebml ≡ Ok segment
  pub body : segment.body ≡ f.outline.segment.body
  pub whole : (segment_run new segment).damage ≡ None
  pub undamaged : damages_of (file_events true new segment) ≡ []
  pub info : first_tree INFO new segment ≡ first_tree INFO old f.outline.segment
  pub tracks : first_tree TRACKS new segment ≡ first_tree TRACKS old f.outline.segment
  pub attachments : first_attached new segment ≡ first_attached old f.outline.segment
  pub file_data : attached_data new segment ≡ attached_data old f.outline.segment
  pub chapters : first_tree CHAPTERS new segment ≡ first_tree CHAPTERS old f.outline.segment
  pub tags : first_tree TAGS new segment ≡ first_tree TAGS old f.outline.segment
  pub blocks : (r : Rules) → blocks_of (events_of r new segment) ≡ blocks_of (events_of r old f.outline.segment)
  pub cues : CuesAre new (segment_run new segment).list points
  pub points_at : All (PointsAtBlock (file_scale new segment) new segment) points
  pub seeks : HasSeeksOf index_ids old new f.outline.segment segment
  pub again : length f.outline.others + 2 ≤ MAX_ELEMENTS → (o : FileOutline) × (indexable new ≡ Ok (record { outline = o; trees = f.trees }))

-- Law on `reindex`: a file that gets the new index `x` holds its old content and that index, and no damage. `old` is its content before, at most 2^48
-- bytes, and `f` what was read of it. No Timestamp or block is at level 1.
abbrev pub NewIndexIsWhole : Type 0
NewIndexIsWhole =
    (old : List ℕ) (f : EditableFile) (x : Index) → AreOctets old → length old ≤ LONGEST_FILE
    → All IsOutside (segment_run old f.outline.segment).list
    → indexable old ≡ Ok f → index_of old ≡ Ok x → HoldsIndex old (applied old x.writes) f x.points
