-- The outcome of `info` for a file: a line for each Element (RFC 8794, section 8, EBML Document) and each track (RFC 9559, section 5.1.4, Tracks
-- Element). The lines are this project's.
use Rattle.std.specs.Prelude.{ℕ, ◌++◌, List, [], ◌∷◌, map, Option, Some, None, Result, Ok, Err}
use Rattle.mkv_io.specs.declared.damage.Damage.{Damage}
use Rattle.mkv_schema.specs.Outline.{Outlined, outline_of, segment_run}
use Rattle.mkv_schema.specs.declared.element.Header.{Header}
use Rattle.element_reader.specs.Outline.{FileOutline}
use Rattle.track_records.specs.declared.track.Track.{Track}
use Rattle.mkv_lines.specs.Line.{level_0_line, level_1_line, refusal_line, warning_line}
use Rattle.mkv_lines.specs.Verdict.{Verdict, only_said, refused}
use Rattle.mkv_lines.specs.declared.status.Status.{Status}
use Rattle.mkv_lines.specs.declared.status.Status.TheVariants.{Done, Warned}
use Rattle.mkv_info.specs.Tracks.{file_tracks, track_lines}

-- the lines of `info` for the Elements of a file with the outline `o`: the EBML header, the Segment, and each Element at level 1. `listed` begins
-- with them.
abbrev pub element_lines : Outlined → List (List ℕ)
element_lines o = level_0_line o.ebml ∷ level_0_line o.segment ∷ map level_1_line o.list

-- the lines of `info` for the Elements of a file with the content `bytes`, whose outline the code has read as `o`. The contract of `say_elements`
-- promises them.
abbrev pub shown_lines : List ℕ → FileOutline → List (List ℕ)
shown_lines bytes o = level_0_line o.ebml ∷ level_0_line o.segment ∷ map level_1_line (segment_run bytes o.segment).list

-- the lines of `info` for the Elements at level 1 of the Segment `segment` in the content `bytes`. The contract of `say_level_1` promises them.
abbrev pub level_1_lines : Header → List ℕ → List (List ℕ)
level_1_lines segment bytes = map level_1_line (segment_run bytes segment).list

-- the warning after the list or the JSON of the file `name`: its damage at level 1, if any, which ends the list. It is a list of no or one line. Used
-- by `warn`, `identified` and others.
abbrev pub warnings : List ℕ → Option Damage → List (List ℕ)
warnings name None = []
warnings name (Some d) = warning_line name d ∷ []

-- the status of `info` or `merge -J` after it read a file: Warned if there is damage at level 1, or else Done
abbrev pub status_with : Option Damage → Status
status_with None = Done
status_with (Some d) = Warned

-- the outcome of `info` for the file `name` with the outline `o` and the tracks `tracks`: the Elements, then the tracks, then the warning.
-- `with_tracks` uses it for tracks that aren't refused.
abbrev pub listed : List ℕ → Outlined → List Track → Verdict
listed name o tracks = only_said (status_with o.damage) (element_lines o ++ (track_lines 0 tracks ++ warnings name o.damage))

-- the outcome of `info` for the file `name` with the outline `o`, given its tracks, or the damage for which they are refused. `listed_or_refused`
-- uses it.
abbrev pub with_tracks : List ℕ → Outlined → Result (List Track) Damage → Verdict
with_tracks name o (Ok tracks) = listed name o tracks
with_tracks name o (Err d) = refused (refusal_line name d)

-- the outcome of `info` for the file `name` with the content `bytes`, given its outline, or the damage for which it is refused. `listed_verdict` uses
-- it.
abbrev pub listed_or_refused : List ℕ → List ℕ → Result Outlined Damage → Verdict
listed_or_refused name bytes (Ok o) = with_tracks name o (file_tracks bytes o.segment)
listed_or_refused name bytes (Err d) = refused (refusal_line name d)

-- the outcome of `info` for the file `name` with the content `bytes`. The contract of `list_file` promises it.
abbrev pub listed_verdict : List ℕ → List ℕ → Verdict
listed_verdict name bytes = listed_or_refused name bytes (outline_of 0 bytes)
