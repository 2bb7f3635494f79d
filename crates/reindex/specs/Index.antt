-- A file that can get a new index: RFC 9559, section 5.1.5 (Cues Element). The reasons to refuse it, and their order, are this project's.
use Rattle.std.specs.Prelude.{ℕ, true, List, slice_get, Option, Result}
use Rattle.mkv_io.specs.declared.damage.Damage.{Damage}
use Rattle.mkv_schema.specs.declared.element.Header.{Header}
use Rattle.mkv_io.specs.Results.{and_then, unless}
use Rattle.element_reader.specs.Outline.{outline_in}
use Rattle.tree_format.specs.Node.{Node}
use Rattle.file_format.specs.FileBlocks.{file_events}
use Rattle.block_format.specs.Events.{damages_of}
use Rattle.edit_changes.specs.Records.{EditableFile, trees_of}
use Rattle.output_model.specs.declared.places.CuePoint.{CuePoint}
use Rattle.reindex.specs.Points.{index_points}

-- the first damage at level 1 or in the Clusters of a file with the content `bytes` and the Segment `segment`, if any; `reindex` refuses the file for
-- it
abbrev pub file_damage : List ℕ → Header → Option Damage
file_damage bytes segment = slice_get (damages_of (file_events true bytes segment)) 0

-- The file with the content `bytes`, or its refusal by `reindex`. It is refused first for its outline, then for its Info, Tracks and other records,
-- and then for its first damage.
abbrev pub indexable : List ℕ → Result EditableFile Damage
indexable bytes =
    and_then (outline_in 0 bytes) (λ o.
    and_then (trees_of bytes o.segment) (λ trees.
    unless (file_damage bytes o.segment) (record { outline = o; trees = trees })))

-- The cue points that `reindex` makes for a file with the content `bytes` and the Segment `segment`, or its first damage; `tracks` has the children
-- of its Tracks.
abbrev pub points_of : List ℕ → Header → List Node → Result (List CuePoint) Damage
points_of bytes segment tracks = unless (file_damage bytes segment) (index_points bytes segment tracks)
