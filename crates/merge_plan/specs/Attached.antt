-- Files that a merge attaches, as sources without tracks: RFC 9559, section 5.1.6 (Attachments Element). That they are sources is this project's choice.
use Rattle.std.specs.Prelude.{◌≡◌, ℕ, Bool, false, not, List, [], ◌∷◌, length, map, None}
use Rattle.std.specs.List.{zip}
use Rattle.mkv_io.specs.declared.outside.FileId.{FileId}
use Rattle.mkv_io.specs.LiveFiles.{LiveFiles}
use Rattle.meta_records.specs.Attached.{AttachedFile}
use Rattle.output_records.specs.Attached.{attached_entry}
use Rattle.requests.specs.declared.merge.AttachedWords.{AttachedWords}
use Rattle.merge_inputs.specs.Input.{Entries, InputRead, IsInput}
use Rattle.merge_inputs.specs.Select.{kept_list}
use Rattle.merge_inputs.specs.declared.input.Input.{Input}
use Rattle.merge_plan.specs.Plan.{Source}
use Rattle.merge_plan.specs.TakenTracks.{HasPlace}

-- the attached file that `words` describes and that is a whole file of `len` bytes; it has no identifier yet. With `webm` there is none, since WebM has
-- no Attachments. `attached_read` uses it.
abbrev pub whole_file : AttachedWords → Bool → ℕ → List AttachedFile
whole_file words webm len =
    kept_list (not webm) (record { uid = 0; at = 0; len = len; entry = attached_entry words.name words.media_type words.description } ∷ [])

-- a file of `len` bytes that `words` attaches, read as an input of the merge: it has no tracks and blocks, and one attached file, the whole file, or
-- none with `webm`. `attached_source` uses it.
abbrev pub attached_read : AttachedWords → Bool → ℕ → InputRead
attached_read words webm len = record {
  blocks = Entries [];
  title = [];
  held = 0;
  count = 0;
  taken = [];
  attachments = whole_file words webm len;
  chapters = None;
  tags = None;
  keep = record { tracks = false; global = false };
  shift = None;
  times = [];
}

-- the source of a merge for a file with the content `pair.1` that `pair.0` attaches; `webm` is true for a WebM output. `attached_sources` uses it.
abbrev pub attached_source : Bool → AttachedWords × List ℕ → Source
attached_source webm pair = (pair.1, attached_read pair.0 webm (length pair.1))

-- the sources of a merge for the files that `attached` attaches, whose contents are `contents`, in the order of the command line. They come after the
-- inputs, so that identifiers of their attached files win. `webm` is true for a WebM output. The sources of a merge end with them.
abbrev pub attached_sources : Bool → List AttachedWords → List (List ℕ) → List Source
attached_sources webm attached contents = map (attached_source webm) (zip attached contents)

-- The input `i` was made of the live file `file` of `files`, which is attached. It is valid, and has no append offset. The contract of
-- `attached_input` states it.
pub record IsAttachedInput (files : LiveFiles) (file : FileId) (i : Input) : Type 0 where
  pub good : IsInput files i
  pub of : i.file ≡ file
  pub place : HasPlace i
