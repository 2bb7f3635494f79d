-- The frames that can't be written in the form of their codec ("bad frames"): an extraction leaves them out and reports them. The choice is this
-- project's; the forms are the codecs'.
use Rattle.std.specs.Prelude.{◌≡◌, ◌==◌, Bool, ℕ, pos, if◌then◌else◌, is_none, List, [], ◌++◌, length, map, filter, Option, None, Some}
use Rattle.std.specs.List.{find, flat_map}
use Rattle.mkv_schema.specs.declared.ids.TheConstants.{SIMPLE_BLOCK, BLOCK}
use Rattle.mkv_io.specs.declared.damage.Damage.{Damage}
use Rattle.mkv_io.specs.declared.damage.Kind.TheVariants.{BadFrame}
use Rattle.block_format.specs.Block.{Block}
use Rattle.block_format.specs.Events.{Event, blocks_of, damages_of}
use Rattle.cluster_reader.specs.ToldDamages.{ToldDamages, told_damages}
use Rattle.extractors.specs.Content.{written_of}
use Rattle.extractors.specs.Frames.{Frame}
use Rattle.extractors.specs.declared.extracted.Extracted.{Extracted}
use Rattle.extractors.specs.declared.track_output.TrackOutput.{TrackOutput}

-- a frame with the bytes `octets`, at time 0 with duration 0, for `is_bad`; whether a frame is bad doesn't depend on its time
abbrev pub untimed : List ℕ → Frame
untimed octets = record { octets = octets; time = pos 0; duration = 0 }

-- A frame with the bytes `octets` in its block can't be written in the form of the output `o`, whatever its number and time. `extract` leaves it out.
abbrev pub is_bad : TrackOutput → List ℕ → Bool
is_bad o octets = is_none (written_of o.form 1 (untimed octets) (o.prefix ++ octets))

-- the report of a bad frame in the block `b` that `extract` prints: its kind, the ID of the block's Element, and the block's offset in the file
abbrev pub bad_frame : Block → Damage
bad_frame b = record { kind = BadFrame; id = if b.group then BLOCK else SIMPLE_BLOCK; offset = b.offset }

-- the number of the frames of the block `b` that can't be written to the output `o`, or None if the block is of another track. Used by
-- `CountsBadPiece`.
abbrev pub bad_count : TrackOutput → Block → Option ℕ
bad_count o b = if o.track == b.track then Some (length (filter (is_bad o) b.frames)) else None

-- the reports of the bad frames of the block `b`, if it is written to the given output, one for each bad frame; none without an output (None). Used
-- by `bad_in`.
abbrev pub bad_for : Block → Option TrackOutput → List Damage
bad_for b None = []
bad_for b (Some o) = map (λ octets. bad_frame b) (filter (is_bad o) b.frames)

-- The reports of the bad frames of the block `b`, if the outputs of the extraction are `list`. Each frame is reported once, even if two outputs take
-- its track: both have the same form. Used by `bad_frames` and `TellsBad`.
abbrev pub bad_in : List TrackOutput → Block → List Damage
bad_in list b = bad_for b (find (λ (o : TrackOutput). o.track == b.track) list)

-- the reports of the bad frames of `blocks`, in the order of the file: the ones that the outputs `list` of an extraction leave out, since they aren't
-- in the format of their track's codec. There is one report for each frame, and none for a track without an output. Used by `told_of`.
abbrev pub bad_frames : List TrackOutput → List Block → List Damage
bad_frames list blocks = flat_map (bad_in list) blocks

-- ---- reports

-- the problems that an extraction to the outputs `list` reports for the events `events` (blocks and damage) of a file: the damaged places, and the
-- frames that aren't written; for `TellsLeft` and `TellsTaken`
abbrev pub told_of : List TrackOutput → List Event → Extracted
told_of list events = record {
  damages = told_damages (damages_of events);
  bad_frames = told_damages (bad_frames list (blocks_of events));
}

-- The reports of the bad frames `more` were appended: whatever places `old` reports, `new` reports them and then `more`. Both are counts with the
-- first hundred places. Used by `TellsBad` and the contract of `add_bad_frames`.
abbrev pub TellsMore : ToldDamages → ToldDamages → List Damage → Type 0
TellsMore old new more = (list : List Damage) → old ≡ told_damages list → new ≡ told_damages (list ++ more)
