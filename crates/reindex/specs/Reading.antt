-- The cue points of a file as the code reads them, in one walk over its blocks.
use Rattle.std.specs.Prelude.{◌≡◌, ◌≤◌, ⊤, ℕ, ◌+◌, if◌then◌else◌, List, [], ◌∷◌, ◌++◌, map, take, slice_get, Option, Some, None, Result, Ok, Err, OnOk}
use Rattle.mkv_io.specs.Sources.{IfTold}
use Rattle.mkv_io.specs.declared.damage.Damage.{Damage}
use Rattle.mkv_io.specs.declared.outside.FileId.{FileId}
use Rattle.mkv_io.specs.declared.reads.Reads.{Ghosts}
use Rattle.mkv_schema.specs.declared.element.Header.{Header}
use Rattle.mkv_io.specs.Results.{unless}
use Rattle.element_reader.specs.Outline.{FileOutline, outline_in}
use Rattle.element_reader.specs.declared.outline_end.OutlineEnd.{OutlineEnd}
use Rattle.element_reader.specs.declared.outline_end.OutlineEnd.TheVariants as outline_end
use Rattle.tree_format.specs.Node.{Node}
use Rattle.file_format.specs.Entry.{number_of}
use Rattle.block_format.specs.Block.{Block}
use Rattle.block_format.specs.Events.{Event, blocks_of, damages_of}
use Rattle.block_reader.specs.Buffered.{Buffered, block_of}
use Rattle.cluster_reader.specs.Reading.{Reading, left_of}
use Rattle.edit_changes.specs.Records.{trees_of}
use Rattle.edit_changes.specs.declared.trees.Trees.{Trees}
use Rattle.output_model.specs.declared.TheConstants.{MAX_CUES}
use Rattle.output_model.specs.declared.places.CuePoint.{CuePoint}
use Rattle.reindex.specs.Clusters.{HasComeTo}
use Rattle.reindex.specs.Index.{points_of}
use Rattle.reindex.specs.Points.{is_indexed, is_indexed_track, points_among, points_to}
use Rattle.reindex.specs.declared.clusters.Clusters.{Clusters}
use Rattle.reindex.specs.declared.indexing.Indexing.{Indexing}
use Rattle.reindex.specs.declared.point.Point.{Point}

-- the cue point `p` that `reindex` read, as the definitions of the Cues have it
abbrev pub cue_of : Point → CuePoint
cue_of p = record { tick = p.tick; lane = p.track; cluster = p.cluster; relative = p.relative }

-- the cue points `points` that `reindex` read, as the definitions of the Cues have them
abbrev pub cues_of : List Point → List CuePoint
cues_of points = map cue_of points

-- the TrackNumber of the child `n` of Tracks, if it is a video or subtitle track, which `reindex` gives cue points; None for any other child
abbrev pub indexed_number : Node → Option ℕ
indexed_number n = if is_indexed_track n then Some (number_of n) else None

-- the cue point that `reindex` makes for the block `b` by the properties `i` of the file, as a list of one. It is empty if the block gets none or
-- isn't in one of the Clusters of `list`, the headers at level 1.
abbrev pub points_for : Indexing → List Header → Block → List CuePoint
points_for i list b = if is_indexed i.tracks b then points_to i.scale i.base list b else []

-- The last argument, which a reader of `reindex` returned, has `found`, the cue points or the refusal of the file; or a read failed, or memory ran
-- out.
abbrev pub ReadsPoints : Result (List CuePoint) Damage → Result (List Point) OutlineEnd → Type 0
ReadsPoints found (Ok points) = found ≡ Ok (cues_of points)
ReadsPoints found (Err (outline_end.Refused d)) = found ≡ Err d
ReadsPoints found (Err outline_end.ReadFault) = ⊤
ReadsPoints found (Err outline_end.Memory) = ⊤

-- the cue points that `reindex` makes for the blocks in `events` by the properties `i` of the file, or the first damage there; `list` has all headers
-- at level 1
abbrev pub points_in : Indexing → List Header → List Event → Result (List CuePoint) Damage
points_in i list events =
    unless (slice_get (damages_of events) 0) (take MAX_CUES (points_among i.scale i.base list i.tracks (blocks_of events)))

-- The offsets of the given blocks in their file ascend, and the first is at least `p`, so that one walk finds their Clusters. Used by `ReadsLeft`.
abbrev pub BlocksAscend : ℕ → List Block → Type 0
BlocksAscend p [] = ⊤
BlocksAscend p (b ∷ bs) = (p ≤ b.offset) × BlocksAscend (b.offset + 1) bs

-- The cue point of the block `b`, if it gets one by the properties `i`, was appended to `old`, which became `new`, unless MAX_CUES are there.
-- Afterwards the walk `clusters` over `list`, the headers at level 1, has lost no Cluster of the file with the content `bytes`. `add_point` promises
-- it.
pub record AddsPoint (i : Indexing) (list : List Header) (bytes : List ℕ) (b : Block) (old new : List Point) (clusters : Clusters) : Type 0 where
  pub come : HasComeTo bytes list clusters
  pub points : cues_of new ≡ take MAX_CUES (cues_of old ++ points_for i list b)

-- If the block `given` gets a cue point by the properties `i` of the file and there is room, it was appended to `old`, which became `new`. The walk
-- `before` became `clusters`. It is promised if the file's content is visible to the proof in the state `src`. The contract of `add_point` has it.
-- `r` gives the proof's view of the files.
abbrev pub AddsPointIn : {S : Type 0} → Ghosts S → S → Indexing → Buffered → List Point → List Point → Clusters → Clusters → Type 0
AddsPointIn r src i given old new before clusters = IfTold r src before.level.file (λ bytes. (list : List Header)
    → HasComeTo bytes list before → before.reached ≤ given.head.offset → AddsPoint i list bytes (block_of given) old new clusters)

-- A call of `add_point` that succeeded appended the cue point of the block at `cursor` to `old`, which became `new`. It did so only if the block gets
-- one, by the properties `i` of the file, and there is room. The walk `before` became `clusters`. It is promised if the content is visible to the
-- proof in the state `src`. `r` gives the proof's view of the files. `result` is what the call returned.
abbrev pub AddsPointOf : {S T E : Type 0} → Ghosts S → S → Indexing → Reading → List Point → List Point → Clusters → Clusters → Result T E → Type 0
AddsPointOf r src i cursor old new before clusters result = OnOk result (AddsPointIn r src i cursor.block old new before clusters)

-- `result` has the cue points of the remaining blocks of `cursor` by the properties `i` of the file, or the first damage. `clusters` is the walk for
-- their Clusters. It is promised if the file's content is visible to the proof in the state `src`. It is the contract of `collect`. `r` gives the
-- proof's view of the files.
abbrev pub ReadsLeft : {S : Type 0} → Ghosts S → S → Indexing → Clusters → Reading → Result (List Point) OutlineEnd → Type 0
ReadsLeft r src i clusters cursor result = IfTold r src cursor.file (λ bytes. (list : List Header)
    → HasComeTo bytes list clusters → BlocksAscend clusters.reached (blocks_of (left_of bytes cursor))
    → ReadsPoints (points_in i list (left_of bytes cursor)) result)

-- `result` has the cue points of the file `file` with the outline `outline` and the records `trees`, or its first damage. It is promised if the
-- content is visible to the proof in the state `src`. It is the contract of `read_points`. `r` gives the proof's view of the files.
abbrev pub ReadsAll : {S : Type 0} → Ghosts S → S → FileId → FileOutline → Trees → Result (List Point) OutlineEnd → Type 0
ReadsAll r src file outline trees result = IfTold r src file (λ bytes. (held : ℕ) → outline_in held bytes ≡ Ok outline
    → trees_of bytes outline.segment ≡ Ok trees → ReadsPoints (points_of bytes outline.segment trees.tracks) result)
