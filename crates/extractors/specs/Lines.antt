-- The cue points of a track as lines of text: RFC 9559, section 5.1.5 (Cues Element).
use Rattle.std.specs.Prelude.{ℕ, ◌*◌, ◌==◌, false, if◌then◌else◌, List, [], ◌++◌, codes, flat_map, Option, Some, None}
use Rattle.std.specs.Fmt.{decimal}
use Rattle.std.specs.Option.{option_map, option_map_or}
use Rattle.mkv_schema.specs.declared.ids.TheConstants.{CUE_CLUSTER_POSITION, CUE_POINT, CUE_RELATIVE_POSITION, CUE_TIME, CUE_TRACK, CUE_TRACK_POSITIONS}
use Rattle.tree_format.specs.Changes.{part}
use Rattle.tree_format.specs.Node.{Node, children}
use Rattle.tree_format.specs.Values.{integer_in}

-- a number in decimal, or `-` if it is absent (None), in a line of a cue point; for `labelled` and `cue_line`
abbrev pub number_or_dash : Option ℕ → List ℕ
number_or_dash None = codes "-"
number_or_dash (Some n) = decimal n

-- the label `name` in a line of a cue point, followed by the number `number`, or by `-` if there is none; for the contracts of `put_integer` and
-- `put_number`
abbrev pub labelled : List ℕ → Option ℕ → List ℕ
labelled name number = name ++ number_or_dash number

-- the time in nanoseconds of the CuePoint `point`, at `scale` nanoseconds per tick, for its lines; None without a CueTime. Used by `point_lines` and
-- the contract of `time_of`.
abbrev pub point_time : ℕ → Node → Option ℕ
point_time scale point = option_map (λ ticks. ticks * scale) (integer_in CUE_TIME point)

-- the line that `extract` writes of `place`, a CueTrackPositions of a CuePoint at `time` nanoseconds. Its positions are printed as they are stored,
-- in bytes, and `-` if they are absent.
abbrev pub cue_line : Option ℕ → Node → List ℕ
cue_line time place =
    codes "timestamp=" ++ (number_or_dash time
    ++ (codes " cluster_position=" ++ (number_or_dash (integer_in CUE_CLUSTER_POSITION place)
    ++ (codes " relative_position=" ++ (number_or_dash (integer_in CUE_RELATIVE_POSITION place) ++ codes "\n")))))

-- the line of the CueTrackPositions `place` of a CuePoint at `time` nanoseconds, if its CueTrack is the TrackNumber `track`; none if it is another
-- track's. Used by `point_lines` and the contract of `put_place`.
abbrev pub place_lines : Option ℕ → ℕ → Node → List ℕ
place_lines time track place = if option_map_or (λ own. own == track) (integer_in CUE_TRACK place) false then cue_line time place else []

-- the lines that `extract` writes of the CuePoint `point` for the track with TrackNumber `track`, one for each of its CueTrackPositions, at `scale`
-- nanoseconds per tick
abbrev pub point_lines : ℕ → ℕ → Node → List ℕ
point_lines scale track point = flat_map (place_lines (point_time scale point) track) (part CUE_TRACK_POSITIONS (children point))

-- the lines that `extract` writes of the Cues `cues` for the track with TrackNumber `track`, in the order of the Cues, at `scale` nanoseconds per
-- tick
abbrev pub cue_lines : ℕ → ℕ → Node → List ℕ
cue_lines scale track cues = flat_map (point_lines scale track) (part CUE_POINT (children cues))
