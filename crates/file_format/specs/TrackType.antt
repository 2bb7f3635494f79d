-- The names of the types of tracks: RFC 9559, section 5.1.4 (Tracks Element), TrackType.
use Rattle.std.specs.Prelude.{ℕ, ◌==◌, if◌then◌else◌, List, codes}
use Rattle.mkv_schema.specs.declared.track_type.TheConstants.{VIDEO_TRACK, AUDIO_TRACK, SUBTITLE_TRACK}

-- the name that `info` shows for the TrackType `type`; all types except three have the same name
unfoldable pub type_name : ℕ → List ℕ
type_name type =
    if type == VIDEO_TRACK then codes "video" else
    (if type == AUDIO_TRACK then codes "audio" else (if type == SUBTITLE_TRACK then codes "subtitles" else codes "other"))
