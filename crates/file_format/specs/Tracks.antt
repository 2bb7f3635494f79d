-- Properties of the tracks of a file: RFC 9559, section 5.1.4 (Tracks Element). The limits are this project's.
use Rattle.std.specs.Prelude.{◌≢◌, ◌<◌, ◌≤◌, List, length, map, All, IsSome, IfSome}
use Rattle.std.specs.List.{AllPairs}
use Rattle.mkv_schema.specs.declared.ids.TheConstants.{TRACK_TYPE, CODEC_ID}
use Rattle.tree_format.specs.Node.{Node}
use Rattle.tree_format.specs.Values.{first_child}
use Rattle.file_format.specs.Entry.{number_of, default_duration_of}
use Rattle.file_format.specs.Refusal.{too_long, most_tracks}

-- The TrackEntry `entry` has a TrackNumber other than 0, a TrackType and a CodecID, and its DefaultDuration isn't too long. Every track of a Tracks
-- that isn't refused is one.
pub record IsTrack (entry : Node) : Type 0 where
  pub number : 0 < number_of entry
  pub type : IsSome (first_child TRACK_TYPE entry)
  pub codec : IsSome (first_child CODEC_ID entry)
  pub duration : IfSome (default_duration_of entry) (λ d. d < too_long)

-- Each of the TrackEntries `entries` is valid, no two have the same TrackNumber, and there aren't too many. It is true of a Tracks that isn't
-- refused.
pub record AreTracks (entries : List Node) : Type 0 where
  pub each : All IsTrack entries
  pub distinct : AllPairs ◌≢◌ (map number_of entries)
  pub few : length entries ≤ most_tracks
