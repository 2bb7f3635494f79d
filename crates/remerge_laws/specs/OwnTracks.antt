-- TrackEntries of an output that are read and written again: RFC 9559, section 5.1.4 (Tracks Element). This is this project's promise.
use Rattle.std.specs.Prelude.{◌≡◌, ◌<◌, ◌^◌, List, map, All}
use Rattle.mkv_schema.specs.declared.ids.TheConstants.{TRACKS}
use Rattle.tree_format.specs.Node.{Node, master, nodes_of}
use Rattle.tree_format.specs.NormalForm.{octets}
use Rattle.file_format.specs.Entry.{uid_of}
use Rattle.record_changes.specs.Identifiers.{renumbered}
use Rattle.track_records.specs.declared.track.Track.{Track}
use Rattle.track_records.specs.declared.track_change.TrackChange.{TrackChange}
use Rattle.track_records.specs.Entry.{IsWholeEntry}
use Rattle.record_laws.specs.Again.{AreNumbered, merged_again, written_entries}
use Rattle.remerge_laws.specs.Records.{AreTracksOf}

-- The tracks `read` from the TrackEntries that a merge wrote are written as they were by a merge without options. The entries are `entries` with
-- `changes`, which numbered them from 1 and gave them TrackUIDs of 64 bits. The law `own_tracks_stay` states it.
abbrev pub OwnTracksStay : Type 0
OwnTracksStay =
    (changes : List TrackChange) (entries : List Node) (read : List Track) → All IsWholeEntry entries → All (λ c. c.uid < 2 ^ 64) changes
    → AreNumbered 1 (renumbered (map uid_of entries)) changes
    → AreTracksOf (master TRACKS 0 (nodes_of (written_entries changes entries))) read
    → map octets (merged_again (map (λ t. t.entry) read)) ≡ map octets (written_entries changes entries)
