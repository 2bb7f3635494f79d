-- The tracks found and the rest make the whole list.
use Rattle.std.proofs.Common.{◌≡◌, ◌++◌, map}
use Rattle.file_format.specs.Entry.{entries_of}
use Rattle.track_records.specs.Track.{track_of}
use Rattle.track_records.proofs.EntriesLemmas.{entries_from}
use Rattle.track_records.proofs.tracks.tracks_in.Given as goal

abbrev pub invariant-loop-child : goal.invariant-loop-child
invariant-loop-child l = l.list ++ map track_of (entries_from l.child-index l.child-items) ≡ map track_of (entries_of l.tracks)
