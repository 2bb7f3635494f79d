-- The output's identifiers of targets: RFC 9559, section 5.1.8 (Tags). Their choice is this project's.
use Rattle.std.specs.Prelude.{ℕ, ◌==◌, nat_eq, if◌then◌else◌, Option, None}
use Rattle.indexmap.specs.IndexMap.{get}
use Rattle.mkv_schema.specs.declared.ids.TheConstants.{TAG_TRACK_UID, TAG_EDITION_UID, TAG_CHAPTER_UID, TAG_ATTACHMENT_UID}
use Rattle.record_changes.specs.declared.uid_map.UidMap.{UidMap}

-- the output's number in `map` for the identifier `uid` in a target with the ID `id`, or None if the output lacks the item or the ID is another one.
-- Contracts of the functions that write Tags use it.
abbrev pub numbers_in : UidMap → ℕ → ℕ → Option ℕ
numbers_in map id uid =
    if id == TAG_TRACK_UID then get nat_eq map.tracks uid else
    (if id == TAG_EDITION_UID then get nat_eq map.editions uid else
    (if id == TAG_CHAPTER_UID then get nat_eq map.chapters uid else
    (if id == TAG_ATTACHMENT_UID then get nat_eq map.attachments uid else None)))
