-- The identification of a file as one JSON value, and the text of that value. The keys, their order and the conditions to leave one out are this
-- project's.
use Rattle.std.specs.Prelude.{ℕ, List, [], ◌∷◌, true, Option, codes}
use Rattle.std.specs.Option.{option_map, option_and_then}
use Rattle.serde_json.specs.Data.{Data, boolean, string}
use Rattle.serde_json.specs.Written.{compact_text}
use Rattle.mkv_schema.specs.declared.ids.TheConstants.{TITLE}
use Rattle.tree_format.specs.Node.{Node}
use Rattle.meta_records.specs.Records.{FileRecords, scale_of_info}
use Rattle.mkv_info.specs.declared.tags.Scope.TheVariants.{Global}
use Rattle.mkv_info.specs.Json.{Member, given, if_there, object_of, whole}
use Rattle.mkv_info.specs.Texts.{text_or_empty, unless_empty}
use Rattle.mkv_info.specs.Attachments.{attachments_value}
use Rattle.mkv_info.specs.Chapters.{chapter_count, entries_value}
use Rattle.mkv_info.specs.Tags.{tag_count, track_tags_value}
use Rattle.mkv_info.specs.ToldTracks.{tracks_value}

-- the Title of the file's first Info `info` (RFC 9559, section 5.1.2, Info Element), or None if it is empty or absent. `container_properties` uses
-- it.
abbrev pub title_of : Option Node → Option (List ℕ)
title_of info = option_and_then (λ i. unless_empty (text_or_empty TITLE i)) info

-- the properties of a file with the first Info `info`: TimestampScale in nanoseconds per tick, and Title, which is left out if it is empty.
-- `container_value` has them.
abbrev pub container_properties : Option Node → Data
container_properties info = object_of (
    given "timestamp_scale" (whole (scale_of_info info)) ∷
    if_there "title" (option_map string (title_of info)) ∷
    [])

-- the value of the key `container` of `merge -J` for a file with the first Info `info`: that the file is Matroska, and its properties
abbrev pub container_value : Option Node → Data
container_value info = object_of (
    given "properties" (container_properties info) ∷
    given "recognized" (boolean true) ∷
    given "supported" (boolean true) ∷
    given "type" (string (codes "Matroska")) ∷
    [])

-- the members of the object that identifies the file `name` with the records `file`, in sorted order of their keys. `identification` is made of them.
abbrev pub told_of : List ℕ → FileRecords → List Member
told_of name file =
    given "attachments" (attachments_value file.attachments) ∷
    given "chapters" (entries_value (chapter_count file.chapters)) ∷
    given "container" (container_value file.info) ∷
    given "file_name" (string name) ∷
    given "global_tags" (entries_value (tag_count Global file.tags)) ∷
    given "track_tags" (track_tags_value file.tags file.tracks) ∷
    given "tracks" (tracks_value file.tracks) ∷
    []

-- the JSON object that `merge -J` prints for the file `name` with the records `file`. The contract of the function with this name promises it.
unfoldable pub identification : List ℕ → FileRecords → Data
identification name file = object_of (told_of name file)

-- the line that `merge -J` prints for the file `name` with the records `file`: its JSON object as text without blanks. The contract of `identify`
-- promises it.
abbrev pub identification_line : List ℕ → FileRecords → List ℕ
identification_line name file = compact_text (identification name file)
