-- The entries of a Tracks as tracks: RFC 9559, section 5.1.4 (Tracks).
use Rattle.std.specs.Prelude.{false, List, map, Result}
use Rattle.mkv_io.specs.declared.damage.Damage.{Damage}
use Rattle.mkv_io.specs.Results.{unless}
use Rattle.tree_format.specs.Node.{Node, offset_of}
use Rattle.file_format.specs.Entry.{entries_of, number_of, uid_of, type_of, codec_of, language_of, default_duration_of}
use Rattle.file_format.specs.Refusal.{refusal_of}
use Rattle.track_records.specs.declared.track.Track.{Track}

-- the track with the TrackEntry `entry`, as `read_tracks` reads it
abbrev pub track_of : Node → Track
track_of entry = record {
  number = number_of entry;
  uid = uid_of entry;
  kind = type_of entry;
  codec = codec_of entry;
  language = language_of entry;
  default_duration = default_duration_of entry;
  offset = offset_of entry;
  entry = entry;
  stored = false;
}

-- the tracks of `tracks` in the order of its entries, or the damage for which it is refused. The contract of `read_tracks` promises it.
abbrev pub tracks_of : Node → Result (List Track) Damage
tracks_of tracks = unless (refusal_of tracks) (map track_of (entries_of tracks))
