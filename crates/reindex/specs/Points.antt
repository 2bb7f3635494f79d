-- The cue points of a file's new index: RFC 9559, sections 5.1.5 (Cues Element) and 16 (Segment Position). The selection of blocks, and the greatest
-- number of points, are this project's.
use Rattle.std.specs.Prelude.{ℕ, ◌-◌, ◌/◌, ◌==◌, nat_lt, true, Bool, ◌&&◌, ◌||◌, if◌then◌else◌, is_some, List, [], ◌∷◌, filter, map, take, Option, Some, None, unwrap_or}
use Rattle.std.specs.List.{flat_map, list_any}
use Rattle.std.specs.Option.{option_map_or, option_or}
use Rattle.mkv_schema.specs.declared.ids.TheConstants.{CLUSTER, TRACK_ENTRY}
use Rattle.mkv_schema.specs.declared.element.Header.{Header}
use Rattle.mkv_schema.specs.Outline.{segment_run}
use Rattle.tree_format.specs.Node.{Node, id_of}
use Rattle.file_format.specs.Entry.{number_of, type_of}
use Rattle.file_format.specs.FileBlocks.{file_events}
use Rattle.file_format.specs.Info.{file_scale}
use Rattle.block_format.specs.Block.{Block}
use Rattle.block_format.specs.Events.{blocks_of}
use Rattle.output_model.specs.Ticks.{since_start}
use Rattle.output_model.specs.declared.TheConstants.{MAX_CUES}
use Rattle.output_model.specs.declared.places.CuePoint.{CuePoint}
use Rattle.mkv_schema.specs.declared.track_type.TheConstants.{VIDEO_TRACK, SUBTITLE_TRACK}

-- ---- the blocks that get a point

-- The child `n` of Tracks is the TrackEntry of a video or subtitle track, whose keyframes get cue points from `reindex`.
abbrev pub is_indexed_track : Node → Bool
is_indexed_track n = id_of n == TRACK_ENTRY && (type_of n == VIDEO_TRACK || type_of n == SUBTITLE_TRACK)

-- the TrackNumbers of the video and subtitle tracks in `tracks`, the children of Tracks, whose keyframes get cue points from `reindex`
abbrev pub indexed_tracks : List Node → List ℕ
indexed_tracks tracks = map number_of (filter is_indexed_track tracks)

-- The block `b` gets a cue point from `reindex`. It is a keyframe of a track with one of the TrackNumbers `numbers`, and isn't before the start of
-- the file.
abbrev pub is_indexed : List ℕ → Block → Bool
is_indexed numbers b = b.key && is_some (since_start b.time) && list_any (λ n. n == b.track) numbers

-- ---- their places

-- the last Cluster of the list, the headers at level 1, that begins before the offset `at` of a block, or None; the block is in it. Used by
-- `points_to`.
abbrev pub cluster_before : ℕ → List Header → Option Header
cluster_before at [] = None
cluster_before at (h ∷ hs) = option_or (cluster_before at hs) (if h.id == CLUSTER && nat_lt h.offset at then Some h else None)

-- The cue point that `reindex` makes for the block `b` in the Cluster with header `h`. A tick has `scale` nanoseconds, and the Segment's data begins
-- at the offset `base`.
abbrev pub point_in : ℕ → ℕ → Block → Header → CuePoint
point_in scale base b h = record {
  tick = unwrap_or (since_start b.time) 0 / scale;
  lane = b.track;
  cluster = h.offset - base;
  relative = b.offset - h.body;
}

-- the cue point of the block `b`, if it is in one of the Clusters of `list`, as a list of one, or an empty list. A tick has `scale` nanoseconds, and
-- the Segment's data begins at the offset `base`. Used by `points_among` and `points_for`.
abbrev pub points_to : ℕ → ℕ → List Header → Block → List CuePoint
points_to scale base list b = option_map_or (λ h. point_in scale base b h ∷ []) (cluster_before b.offset list) []

-- ---- the points of a file

-- the cue points of the blocks in `blocks` that get one from `reindex`, in their order. `scale` is the number of nanoseconds per tick, and `base` the
-- offset of the Segment's data. `list` has all headers at level 1, and `numbers` the TrackNumbers of the indexed tracks.
abbrev pub points_among : ℕ → ℕ → List Header → List ℕ → List Block → List CuePoint
points_among scale base list numbers blocks = flat_map (points_to scale base list) (filter (is_indexed numbers) blocks)

-- The cue points that `reindex` gives a file with the content `bytes` and the Segment `segment`, in the order of its blocks, at most MAX_CUES.
-- `tracks` has the children of its Tracks.
abbrev pub index_points : List ℕ → Header → List Node → List CuePoint
index_points bytes segment tracks = take MAX_CUES
    (points_among (file_scale bytes segment) segment.body (segment_run bytes segment).list (indexed_tracks tracks)
    (blocks_of (file_events true bytes segment)))
