-- The content of a file that `propedit` and `reindex` keep: RFC 9559, section 5.1 (Segment Element).
use Rattle.std.specs.Prelude.{◌≡◌, ◌≤◌, ℕ, List, All, length, Ok}
use Rattle.ebml_numbers.specs.Number.{AreOctets}
use Rattle.mkv_schema.specs.Outline.{segment_run}
use Rattle.mkv_io.specs.declared.outside.TheConstants.{LONGEST_FILE}
use Rattle.requests.specs.declared.edit.Edit.{Edit}
use Rattle.edit_changes.specs.declared.trees.Trees.{Trees}
use Rattle.edit_changes.specs.Change.{edited_trees}
use Rattle.edit_changes.specs.Records.{EditableFile, editable}
use Rattle.edit_laws.specs.Laws.{HoldsEdited, IsOutside}
use Rattle.reindex.specs.Index.{indexable}
use Rattle.reindex.specs.Plan.{Index, index_of}
use Rattle.edit_laws.specs.IndexLaws.{HoldsIndex}

-- The file `new` is the file `old` with `edits` made, and holds the rest of `old`. The second is promised if `old` consists of bytes, at most 2^48 of
-- them, and has neither a Timestamp nor a block at level 1. It is promised for a successful `propedit`.
pub record KeepsRest (edits : List Edit) (old new : List ℕ) : Type 0 where
  pub file : EditableFile
  pub trees : Trees
  pub editable : editable old ≡ Ok file
  pub changed : edited_trees edits file.trees ≡ Ok trees
  pub holds : AreOctets old → length old ≤ LONGEST_FILE → All IsOutside (segment_run old file.outline.segment).list → HoldsEdited old new file trees

-- The file `new` is the file `old` with a new index, and holds the rest of `old`. The second is promised if `old` consists of bytes, at most 2^48 of
-- them, and has neither a Timestamp nor a block at level 1. It is promised for a successful `reindex`.
pub record HasNewIndex (old new : List ℕ) : Type 0 where
  pub file : EditableFile
  pub index : Index
  pub indexable : indexable old ≡ Ok file
  pub made : index_of old ≡ Ok index
  pub holds : AreOctets old → length old ≤ LONGEST_FILE → All IsOutside (segment_run old file.outline.segment).list → HoldsIndex old new file index.points
