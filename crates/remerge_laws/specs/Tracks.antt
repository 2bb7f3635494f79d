-- Tracks that are written and read again: RFC 9559, section 5.1.4 (Tracks Element).
use Rattle.std.specs.Prelude.{◌≡◌, ℕ, map, None, Ok}
use Rattle.std.specs.List.{AllZip}
use Rattle.tree_format.specs.Node.{Node}
use Rattle.tree_format.specs.Standing.{placed}
use Rattle.file_format.specs.Entry.{entries_of, number_of, uid_of, type_of, codec_of, language_of, default_duration_of}
use Rattle.file_format.specs.Refusal.{refusal_of}
use Rattle.track_records.specs.declared.track.Track.{Track}
use Rattle.track_records.specs.Track.{track_of, tracks_of}
use Rattle.remerge_laws.specs.Placed.{StandsAs}

-- The track `t` has the values of the TrackEntry `entry` that was written, and has this entry as it is read. Used for the tracks that a merge reads
-- from an output.
pub record IsTrackOf (entry : Node) (t : Track) : Type 0 where
  pub number : t.number ≡ number_of entry
  pub uid : t.uid ≡ uid_of entry
  pub kind : t.kind ≡ type_of entry
  pub codec : t.codec ≡ codec_of entry
  pub language : t.language ≡ language_of entry
  pub duration : t.default_duration ≡ default_duration_of entry
  pub stands : StandsAs entry t.entry

-- A Tracks Element `tracks` that isn't refused isn't refused after it was written and read at the offset `place`, and its tracks belong to its
-- entries. The law `tracks_are_read` states it.
pub record TracksAreRead : Type 0 where
  pub good : (tracks : Node) (place : ℕ) → refusal_of tracks ≡ None
      → tracks_of (placed place tracks) ≡ Ok (map track_of (entries_of (placed place tracks)))
  pub same : (tracks : Node) (place : ℕ) → AllZip IsTrackOf (entries_of tracks) (map track_of (entries_of (placed place tracks)))
