-- The tracks of a file, and their lines in the list of `info`: RFC 9559, section 5.1.4 (Tracks Element).
use Rattle.std.specs.Prelude.{◌≡◌, ℕ, ◌+◌, List, [], ◌∷◌, Option, Some, None, Result, Ok}
use Rattle.mkv_schema.specs.declared.ids.TheConstants.{TRACKS}
use Rattle.mkv_io.specs.declared.damage.Damage.{Damage}
use Rattle.mkv_schema.specs.declared.element.Header.{Header}
use Rattle.mkv_io.specs.Results.{and_then}
use Rattle.element_reader.specs.Outline.{FileOutline, outline_in}
use Rattle.tree_format.specs.Node.{Node}
use Rattle.meta_records.specs.Records.{first_tree}
use Rattle.file_format.specs.TrackType.{type_name}
use Rattle.track_records.specs.Track.{tracks_of}
use Rattle.track_records.specs.declared.track.Track.{Track}
use Rattle.mkv_lines.specs.Shown.{track_text}

-- the tracks in the file's first Tracks, or the damage for which they are refused; none without a Tracks. `file_tracks` uses it.
abbrev pub tracks_in : Option Node → Result (List Track) Damage
tracks_in None = Ok []
tracks_in (Some tracks) = tracks_of tracks

-- the tracks of a file with the content `bytes` and the Segment `segment`, or the damage for which they are refused. `info` lists them.
abbrev pub file_tracks : List ℕ → Header → Result (List Track) Damage
file_tracks bytes segment = and_then (first_tree TRACKS bytes segment) tracks_in

-- If the content `bytes` has the outline `outline`, `found` is the tracks of the file, or the damage for which they are refused. The contract of
-- `tracks_of` promises it.
abbrev pub AreTracksOf : FileOutline → Result (List Track) Damage → List ℕ → Type 0
AreTracksOf outline found bytes = outline_in 0 bytes ≡ Ok outline → found ≡ file_tracks bytes outline.segment

-- the line of `info` for the track `t`, which has the index `k`, from 0, as text without a line end. `track_lines` uses it.
abbrev pub shown_track : ℕ → Track → List ℕ
shown_track k t = track_text k (type_name t.kind) t.codec t.number t.uid t.language

-- the lines of `info` for the tracks of the list; the first has the index `k`. The contract of `say_tracks` promises them.
abbrev pub track_lines : ℕ → List Track → List (List ℕ)
track_lines k [] = []
track_lines k (t ∷ ts) = shown_track k t ∷ track_lines (k + 1) ts
