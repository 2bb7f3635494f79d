-- Laws on `--attach-file`: RFC 9559, section 5.1.6 (Attachments Element). The choice of names and identifiers is this project's.
use Rattle.std.specs.Prelude.{◌≡◌, ℕ, if◌then◌else◌, List, [], ◌++◌, Option, Ok, length, map}
use Rattle.std.specs.List.{zip}
use Rattle.meta_records.specs.Attached.{AttachedFile}
use Rattle.output_records.specs.Attached.{attached_entry}
use Rattle.requests.specs.declared.merge.AttachedWords.{AttachedWords}
use Rattle.requests.specs.declared.merge.MergeWords.{MergeWords}
use Rattle.merge_plan.specs.Front.{attached_from, attachments_of, reads_of}
use Rattle.merge_plan.specs.Plan.{Source, lanes_taken}
use Rattle.merge_plan.specs.Records.{chapters_of, info_of, tags_of, tracks_of_output}
use Rattle.mkv_merge.specs.Merge.{sources_of}
use Rattle.mkv_merge.specs.Read.{attached_held}

-- the merge `words` without `--attach-file`. The laws on the option compare both.
abbrev pub unattached : MergeWords → MergeWords
unattached words = record words { attached = [] }

-- the file with the content `file.1` that `file.0` attaches, with its data: its whole content. It has the name, the media type and the description of
-- `file.0`, and no identifier yet. `files_attached` uses it.
abbrev pub whole : AttachedWords × List ℕ → AttachedFile × List ℕ
whole file = (record { uid = 0; at = 0; len = length file.1; entry = attached_entry file.0.name file.0.media_type file.0.description }, file.1)

-- the files that the merge `words` attaches, with their contents in `world`, in the order of the command line. There are none if the output is WebM,
-- which has no Attachments. Used by `AttachesFiles`.
abbrev pub files_attached : (List ℕ → Option (List ℕ)) → MergeWords → List (AttachedFile × List ℕ)
files_attached world words = if words.webm then [] else map whole (zip words.attached (attached_held world words))

-- The Attachments of the merge `words` of `sources` are those of the merge without `--attach-file`, and after them one AttachedFile for each file that
-- is attached, with all its bytes as FileData. The tracks, their blocks, Info, Chapters and Tags are those without the option. `world` has the files.
-- `own` are the sources without the option, and `uids` the FileUIDs of the files that are attached. `AttachedFilesAreWhole` states it.
pub record AttachesFiles (world : List ℕ → Option (List ℕ)) (words : MergeWords) (sources : List Source) : Type 0 where
  pub own : List Source
  pub without : sources_of world (unattached words) ≡ Ok own
  pub uids : List ℕ
  pub many : length uids ≡ length (files_attached world words)
  pub attachments : attachments_of sources ≡ attachments_of own ++ attached_from uids (files_attached world words)
  pub lanes : lanes_taken words sources ≡ lanes_taken (unattached words) own
  pub tracks : tracks_of_output words.order (reads_of sources) ≡ tracks_of_output words.order (reads_of own)
  pub info : info_of words (reads_of sources) ≡ info_of words (reads_of own)
  pub chapters : chapters_of (reads_of sources) ≡ chapters_of (reads_of own)
  pub tags : tags_of words.order (reads_of sources) ≡ tags_of words.order (reads_of own)

-- If the merge `words` of the files `world` has the sources `sources`, it attaches its files to what it is without them. It is the law
-- `attached_files_are_whole`.
abbrev pub AttachedFilesAreWhole : Type 0
AttachedFilesAreWhole =
    (world : List ℕ → Option (List ℕ)) (words : MergeWords) (sources : List Source) → sources_of world words ≡ Ok sources
    → AttachesFiles world words sources
