-- The attached files of an output that is merged by itself: RFC 9559, section 5.1.6 (Attachments Element). This is this project's promise.
use Rattle.std.specs.Prelude.{◌≡◌, ◌<◌, ◌^◌, List, [], ◌∷◌, map, All}
use Rattle.std.specs.List.{AllZip}
use Rattle.mkv_schema.specs.declared.ids.TheConstants.{FILE_UID}
use Rattle.tree_format.specs.Values.{uint_in}
use Rattle.record_changes.specs.Identifiers.{AreSettled}
use Rattle.meta_records.specs.Attached.{AttachedFile}
use Rattle.merge_plan.specs.Front.{attachments_of, file_uids, reads_of}
use Rattle.merge_plan.specs.Plan.{Source}
use Rattle.mkv_merge.specs.Records.{IsFilled}
use Rattle.remerge_laws.specs.Alike.{AreAlike}
use Rattle.remerge_laws.specs.Files.{IsFileOf}
use Rattle.remerge_laws.specs.OwnFiles.{IsNumbered}

-- The attached files of `sources` can be written, with FileUIDs of 64 bits. A condition of `AttachedFilesStay`.
pub record HaveFiles (sources : List Source) : Type 0 where
  pub filled : All IsFilled (attachments_of sources)
  pub small : All (λ n. n < 2 ^ 64) (file_uids (reads_of sources))

-- Each attached file of a merge of `sources` has one FileUID, which a further merge keeps. Files that `again`, a source, has read from the output are
-- written as they were if it is merged by itself. The law `attached_files_stay` states it.
pub record AttachedFilesStay : Type 0 where
  pub numbered : (sources : List Source) → HaveFiles sources → All IsNumbered (attachments_of sources)
  pub uids : (sources : List Source) → HaveFiles sources → map (uint_in FILE_UID) (attachments_of sources) ≡ file_uids (reads_of sources)
  pub settled : (sources : List Source) → HaveFiles sources → AreSettled (map (uint_in FILE_UID) (attachments_of sources))
  pub read : (sources : List Source) (again : Source) → HaveFiles sources → AllZip (IsFileOf again.0) (attachments_of sources) again.1.attachments
      → map (λ (a : AttachedFile). a.uid) again.1.attachments ≡ file_uids (reads_of sources)
  pub alike : (sources : List Source) (again : Source) → HaveFiles sources → AllZip (IsFileOf again.0) (attachments_of sources) again.1.attachments
      → AllZip AreAlike (attachments_of sources) (attachments_of (again ∷ []))
