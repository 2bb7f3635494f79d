-- Tracks whose frames can be used, and the bytes that are put back before each frame: RFC 9559, section 5.1.4 (Tracks), ContentEncodings and
-- TrackTimestampScale. The kinds and their order are this project's.
use Rattle.std.specs.Prelude.{ℕ, not, if◌then◌else◌, List, [], ◌∷◌, Option, is_none, Result}
use Rattle.mkv_io.specs.declared.damage.Damage.{Damage}
use Rattle.mkv_io.specs.Results.{unless}
use Rattle.mkv_schema.specs.Outline.{first_damage}
use Rattle.file_format.specs.Encoding.{bad_encoding, bad_scale, prefix_of, usable_causes}
use Rattle.track_records.specs.declared.track.Track.{Track}

-- the possible damage that makes the frames of `track` unusable, in the order of the checks. Of frames that are taken as they are stored,
-- ContentEncodings doesn't count. `merge` and `extract` refuse a track for the first one.
abbrev pub causes_of : Track → List (Option Damage)
causes_of track = if track.stored then (bad_scale track.entry ∷ []) else usable_causes track.entry

-- the bytes that are put back before each frame of `track`: the ones that header stripping removed, and none before frames that are taken as they are
-- stored. `merge` writes them.
abbrev pub prefix_for : Track → List ℕ
prefix_for track = if track.stored then [] else prefix_of track.entry

-- the bytes to put back before each frame of `track`, or the damage that makes its frames unusable. The contract of `usable` promises it.
abbrev pub usable_track : Track → Result (List ℕ) Damage
usable_track track = unless (first_damage (causes_of track)) (prefix_for track)

-- the track `track` with its frames taken as they are stored, if its ContentEncodings can't be undone; otherwise they are taken as of any other track.
-- The contract of `as_stored` promises it.
abbrev pub as_stored : Track → Track
as_stored track = record track { stored = not (is_none (bad_encoding track.entry)) }
