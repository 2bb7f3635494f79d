-- The attached files in the JSON of `merge -J`: RFC 9559, section 5.1.6 (Attachments Element). The keys are this project's.
use Rattle.std.specs.Prelude.{ℕ, List, [], ◌∷◌}
use Rattle.serde_json.specs.Data.{Data, string}
use Rattle.mkv_schema.specs.declared.ids.TheConstants.{FILE_DESCRIPTION, FILE_MEDIA_TYPE, FILE_NAME}
use Rattle.meta_records.specs.Attached.{AttachedFile}
use Rattle.mkv_info.specs.Json.{array_of, given, numbered, object_of, whole}
use Rattle.mkv_info.specs.Texts.{text_or_empty}

-- the object of the attached file `a`, an item of `attachments_value`. It has FileMediaType, FileDescription and FileName, empty if absent; the
-- number `id`, counted from 1; FileUID; and the size of FileData in bytes.
abbrev pub attachment_value : ℕ → AttachedFile → Data
attachment_value id a = object_of (
    given "content_type" (string (text_or_empty FILE_MEDIA_TYPE a.entry)) ∷
    given "description" (string (text_or_empty FILE_DESCRIPTION a.entry)) ∷
    given "file_name" (string (text_or_empty FILE_NAME a.entry)) ∷
    given "id" (whole id) ∷
    given "properties" (object_of (given "uid" (whole a.uid) ∷ [])) ∷
    given "size" (whole a.len) ∷
    [])

-- the attached files `list` in the order of the file, numbered from 1, as an array. The JSON of `merge -J` has it.
abbrev pub attachments_value : List AttachedFile → Data
attachments_value list = array_of (numbered (λ id a. attachment_value id a ∷ []) 1 list)
