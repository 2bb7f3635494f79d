-- A file whose properties can be edited, or that is refused: RFC 9559, sections 5.1.2 (Info Element), 5.1.4 (Tracks Element), 5.1.6 (Attachments
-- Element), 5.1.7 (Chapters Element) and 5.1.8 (Tags Element). The reasons to refuse it, and their order, are this project's.
use Rattle.std.specs.Prelude.{ℕ, List, Option, Some, None, Result, Ok, Err}
use Rattle.mkv_schema.specs.declared.ids.TheConstants.{INFO, TRACKS, CHAPTERS, TAGS}
use Rattle.mkv_io.specs.declared.damage.Damage.{Damage}
use Rattle.mkv_io.specs.declared.damage.Kind.TheVariants.{NoTracks}
use Rattle.mkv_schema.specs.declared.element.Header.{Header}
use Rattle.mkv_schema.specs.Element.{damage}
use Rattle.mkv_io.specs.Results.{and_then, unless}
use Rattle.element_reader.specs.Outline.{FileOutline, outline_in}
use Rattle.tree_format.specs.Node.{Node, children}
use Rattle.file_format.specs.Refusal.{refusal_of}
use Rattle.meta_records.specs.Attached.{first_attached}
use Rattle.meta_records.specs.Records.{first_tree, good_info}
use Rattle.edit_changes.specs.declared.trees.Trees.{Trees}

-- The Tracks that was read, or the damage for which it is refused, for `trees_of`. A file without Tracks is refused, at the offset of its `segment`.
abbrev pub good_tracks : Header → Option Node → Result Node Damage
good_tracks segment None = Err (damage NoTracks 0 segment.offset)
good_tracks segment (Some n) = unless (refusal_of n) n

-- The editable parts of a file with the content `bytes` and the Segment `segment`, or the refusal of the file. Info and Tracks are read first. Then
-- Attachments, Chapters and Tags must be sound. Each is the first with its ID. The plan of an edit uses it.
abbrev pub trees_of : List ℕ → Header → Result Trees Damage
trees_of bytes segment =
    and_then (and_then (first_tree INFO bytes segment) good_info) (λ info.
    and_then (and_then (first_tree TRACKS bytes segment) (good_tracks segment)) (λ tracks.
    and_then (first_attached bytes segment) (λ attachments.
    and_then (first_tree CHAPTERS bytes segment) (λ chapters.
    and_then (first_tree TAGS bytes segment) (λ tags.
    Ok (record { info = info; tracks = children tracks }))))))

-- A file that `propedit` or `reindex` can edit: the outline of its Elements at level 1, and its editable parts.
pub record EditableFile : Type 0 where
  pub outline : FileOutline
  pub trees : Trees

-- The editable file with the content `bytes`, or its refusal. It is refused first for its outline, then for damage at level 1, then for its Info,
-- Tracks and other records. `plan_of` begins with it.
abbrev pub editable : List ℕ → Result EditableFile Damage
editable bytes =
    and_then (outline_in 0 bytes) (λ o.
    and_then (unless o.damage o) (λ o.
    and_then (trees_of bytes o.segment) (λ trees.
    Ok (record { outline = o; trees = trees }))))
