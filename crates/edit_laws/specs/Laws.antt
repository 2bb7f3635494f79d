-- The law on the content of a file after edits: RFC 9559, section 5.1 (Segment Element).
use Rattle.std.specs.Prelude.{◌≡◌, ◌≤◌, ℕ, ◌+◌, ◌==◌, false, List, length, map, Option, Some, None, Result, Ok}
use Rattle.std.specs.List.{All}
use Rattle.std.specs.Option.{option_map}
use Rattle.ebml_numbers.specs.Number.{AreOctets}
use Rattle.mkv_schema.specs.declared.ids.TheConstants.{INFO, TRACKS, CHAPTERS, TAGS, TIMESTAMP, SIMPLE_BLOCK, BLOCK_GROUP}
use Rattle.mkv_schema.specs.declared.limits.TheConstants.{MAX_ELEMENTS, MAX_MASTERS_LEN}
use Rattle.mkv_io.specs.declared.damage.Damage.{Damage}
use Rattle.mkv_io.specs.declared.outside.TheConstants.{LONGEST_FILE}
use Rattle.requests.specs.declared.edit.Edit.{Edit}
use Rattle.mkv_schema.specs.declared.element.Header.{Header}
use Rattle.mkv_schema.specs.Element.{octets_between}
use Rattle.mkv_schema.specs.Outline.{ebml_header, segment_of, segment_run}
use Rattle.mkv_io.specs.Results.{and_then}
use Rattle.tree_format.specs.Node.{Node, master, nodes_of}
use Rattle.tree_format.specs.NormalForm.{octets}
use Rattle.block_format.specs.Elements.{Rules}
use Rattle.block_format.specs.Events.{blocks_of, events_of}
use Rattle.meta_records.specs.Attached.{AttachedFile, first_attached}
use Rattle.meta_records.specs.Records.{first_tree}
use Rattle.edit_changes.specs.declared.refusal.TheConstants.{MAX_WRITTEN}
use Rattle.edit_changes.specs.declared.trees.Trees.{Trees}
use Rattle.edit_changes.specs.Change.{edited_trees}
use Rattle.edit_changes.specs.Records.{EditableFile, editable}
use Rattle.edit_changes.specs.Plan.{edited}
use Rattle.reindex.specs.Index.{indexable}

-- the normal form of the first Element with the ID `id` at level 1 of the Segment `segment`, or the damage inside it, to compare a file before and
-- after an edit. `bytes` is the content of the file.
abbrev pub normal_form : ℕ → List ℕ → Header → Result (Option (List ℕ)) Damage
normal_form id bytes segment = and_then (first_tree id bytes segment) (λ n. Ok (option_map octets n))

-- the normal form of a Tracks Element with the children `tracks`, as a file after an edit has it. Used by `HoldsEdited`.
abbrev pub tracks_octets : List Node → List ℕ
tracks_octets tracks = octets (master TRACKS 0 (nodes_of tracks))

-- the data of the attached file `a` in a file with the content `bytes`, which edits keep; for `attached_data`
abbrev pub attached_bytes : List ℕ → AttachedFile → List ℕ
attached_bytes bytes a = octets_between bytes a.at (a.at + a.len)

-- the data of each attached file in the first Attachments of the Segment `segment`, or the damage inside it, to compare a file before and after an
-- edit. `bytes` is the content of the file.
abbrev pub attached_data : List ℕ → Header → Result (List (List ℕ)) Damage
attached_data bytes segment = and_then (first_attached bytes segment) (λ files. Ok (map (attached_bytes bytes) files))

-- The Element with the header `h` at level 1 is neither a Timestamp nor a block, which belong only into Clusters. The laws on edits and a new index
-- suppose it. Used by `NewIndexIsWhole`, `EditsChangeNothingElse` and others.
pub record IsOutside (h : Header) : Type 0 where
  pub timestamp : (h.id == TIMESTAMP) ≡ false
  pub simple : (h.id == SIMPLE_BLOCK) ≡ false
  pub group : (h.id == BLOCK_GROUP) ≡ false

-- The edited file `new` holds the content of `old`, which was read as `f`; `t` has its edited Info and Tracks. Those two are written as edited. The
-- attached files, their data, Chapters and Tags are the old ones, at their places, and so are the blocks, with any scale. Let `old` have room at
-- level 1 for three more Elements and for the bytes of an edit. Then the file can be edited again, and indexed if `old` can be. It is the conclusion
-- of the law on `propedit`.
pub record HoldsEdited (old new : List ℕ) (f : EditableFile) (t : Trees) : Type 0 where
  pub segment : Header
  pub ebml : ebml_header new ≡ Ok f.outline.ebml
  pub found : segment_of new f.outline.ebml ≡ Ok segment
  pub whole : (segment_run new segment).damage ≡ None
  pub info : normal_form INFO new segment ≡ Ok (option_map octets t.info)
  pub tracks : normal_form TRACKS new segment ≡ Ok (Some (tracks_octets t.tracks))
  pub attachments : first_attached new segment ≡ first_attached old f.outline.segment
  pub file_data : attached_data new segment ≡ attached_data old f.outline.segment
  pub chapters : first_tree CHAPTERS new segment ≡ first_tree CHAPTERS old f.outline.segment
  pub tags : first_tree TAGS new segment ≡ first_tree TAGS old f.outline.segment
  pub blocks : (r : Rules) → blocks_of (events_of r new segment) ≡ blocks_of (events_of r old f.outline.segment)
  pub again : length f.outline.others + 3 ≤ MAX_ELEMENTS → f.outline.held + MAX_WRITTEN ≤ MAX_MASTERS_LEN → (g : EditableFile) × (editable new ≡ Ok g)
  pub indexed : length f.outline.others + 3 ≤ MAX_ELEMENTS → f.outline.held + MAX_WRITTEN ≤ MAX_MASTERS_LEN → indexable old ≡ Ok f → (g : EditableFile) × (indexable new ≡ Ok g)

-- Law on `propedit`: a file `new` after the edits `edits` holds the content of the file `old`, except for the Info and Tracks in `t` that the edits
-- change. `f` is what was read of `old`, which has at most 2^48 bytes. No Timestamp or block is at level 1.
abbrev pub EditsChangeNothingElse : Type 0
EditsChangeNothingElse =
    (old new : List ℕ) (edits : List Edit) (f : EditableFile) (t : Trees) → AreOctets old → length old ≤ LONGEST_FILE
    → All IsOutside (segment_run old f.outline.segment).list
    → editable old ≡ Ok f → edited_trees edits f.trees ≡ Ok t → edited old edits ≡ Ok new → HoldsEdited old new f t
