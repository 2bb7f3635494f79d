-- The values of a TrackEntry: RFC 9559, section 5.1.4 (Tracks Element).
use Rattle.std.specs.Prelude.{ℕ, ◌==◌, List, [], Option, filter, unwrap_or}
use Rattle.mkv_schema.specs.declared.ids.TheConstants.{TRACK_ENTRY, TRACK_NUMBER, TRACK_UID, TRACK_TYPE, CODEC_ID, LANGUAGE, LANGUAGE_BCP47, DEFAULT_DURATION}
use Rattle.tree_format.specs.Node.{Node, id_of, children}
use Rattle.tree_format.specs.Values.{integer_in, uint_in, text_in}

-- the TrackEntries of the Tracks `tracks`, in order. Used by all definitions on tracks.
abbrev pub entries_of : Node → List Node
entries_of tracks = filter (λ n. id_of n == TRACK_ENTRY) (children tracks)

-- the TrackNumber of the TrackEntry `entry`, which Blocks use for the track, or 0 if there is none. Used by `repeated_number`, `IsTrack` and others.
abbrev pub number_of : Node → ℕ
number_of entry = uint_in TRACK_NUMBER entry

-- the TrackUID of the TrackEntry `entry`, or 0 if there is none. A `Track` that is read has it, and `propedit` selects a track by it.
abbrev pub uid_of : Node → ℕ
uid_of entry = uint_in TRACK_UID entry

-- the TrackType of the TrackEntry `entry`, or 0 if there is none. A `Track` that is read has it, and `propedit` selects a track by it.
abbrev pub type_of : Node → ℕ
type_of entry = uint_in TRACK_TYPE entry

-- the CodecID of the TrackEntry `entry`, or an empty text if there is none. A `Track` that is read has it, and `extract` chooses the form of a file
-- by it.
abbrev pub codec_of : Node → List ℕ
codec_of entry = unwrap_or (text_in CODEC_ID entry) []

-- the language of the TrackEntry `entry` that is shown: the text of LanguageBCP47 if it is present, even if empty, or else of Language. A `Track`
-- that is read has it.
abbrev pub language_of : Node → List ℕ
language_of entry = unwrap_or (text_in LANGUAGE_BCP47 entry) (unwrap_or (text_in LANGUAGE entry) [])

-- the DefaultDuration of the TrackEntry `entry` in nanoseconds, if it is present. A `Track` that is read has it.
abbrev pub default_duration_of : Node → Option ℕ
default_duration_of entry = integer_in DEFAULT_DURATION entry
