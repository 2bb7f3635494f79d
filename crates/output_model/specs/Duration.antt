-- The end of an output, and the Duration in its Info: RFC 9559, sections 5.1.2 (Info Element), 5.1.3 (Cluster Element) and 5.1.4 (Tracks
-- Element), and RFC 8794, section 7.3 (Float). The rounding of a duration, and the Void in place of a Duration of 0, are this project's.
use Rattle.std.specs.Prelude.{ℕ, zero, suc, ◌-◌, ◌*◌, max, pos, List, [], ◌∷◌, length, map, Option, Some, None, unwrap_or}
use Rattle.std.specs.Float.{binary64}
use Rattle.std.specs.Float.Ieee.{of_int, to_bits}
use Rattle.std.specs.List.{slice_get}
use Rattle.byteorder.specs.Endian.{big_bytes}
use Rattle.mkv_io.specs.Faults.{counted}
use Rattle.mkv_schema.specs.declared.ids.TheConstants.{DURATION}
use Rattle.tree_format.specs.Node.{Node}
use Rattle.file_format.specs.Entry.{default_duration_of, entries_of}
use Rattle.output_model.specs.Element.{Element, element, void_element}
use Rattle.output_model.specs.OutputBlock.{OutputBlock}
use Rattle.output_model.specs.Ticks.{tick_of}
use Rattle.output_model.specs.declared.durations.Durations.{Durations}
use Rattle.output_model.specs.declared.TheConstants.{DURATION_LEN}

-- ---- the end of a block, in ticks

-- the duration of a frame on each output track of the Tracks Element `tracks`, by its DefaultDuration, for the end of an output; a tick is `scale`
-- nanoseconds. Used by `document_of` and others.
abbrev pub durations_of : ℕ → Node → Durations
durations_of scale tracks = record { scale = scale; frames = map default_duration_of (entries_of tracks) }

-- the nanoseconds of a frame on the output track `lane`, counted from 1, by the durations `d`, or None if they aren't known; for `ticks_shown` and
-- the contract of `of_frame`
abbrev pub frame_duration : Durations → ℕ → Option ℕ
frame_duration d lane = unwrap_or (slice_get d.frames (lane - 1)) None

-- the ticks of `scale` nanoseconds that are nearest to `frames` frames of the given duration in nanoseconds, the greater number if two are equally
-- near; 0 ticks if the duration isn't known. Used by `ticks_shown` and the contract of `ticks_of`.
abbrev pub ticks_of_frames : ℕ → ℕ → Option ℕ → ℕ
ticks_of_frames scale frames None = 0
ticks_of_frames scale frames (Some duration) = tick_of scale (frames * duration)

-- the ticks that a block of `frames` frames on the output track `lane`, counted from 1, is shown. The last argument is its BlockDuration, which
-- counts even if it is 0; without one, `d` has the duration of each frame. Used by `end_at`.
abbrev pub ticks_shown : Durations → ℕ → ℕ → Option ℕ → ℕ
ticks_shown d lane frames (Some ticks) = ticks
ticks_shown d lane frames None = ticks_of_frames d.scale frames (frame_duration d lane)

-- the tick at which a block ends that begins at the tick `tick`, at most 2^64 - 1. It has `frames` frames on the output track `lane`, counted from 1,
-- and the BlockDuration `duration` in ticks, if any; `d` has the durations of frames.
abbrev pub end_at : Durations → ℕ → ℕ → ℕ → Option ℕ → ℕ
end_at d lane tick frames duration = counted tick (ticks_shown d lane frames duration)

-- the tick at which the block `b` of an output ends; `d` has the durations of frames on its output tracks. Used by `end_of_blocks` and the contract
-- of `end_of`.
abbrev pub end_of_block : Durations → OutputBlock → ℕ
end_of_block d b = end_at d b.lane b.tick (length b.frames) b.duration

-- the greatest tick at which one of the given blocks ends, or 0 without blocks: the Duration of an output with the same blocks. `d` has the durations
-- of frames.
abbrev pub end_of_blocks : Durations → List OutputBlock → ℕ
end_of_blocks d [] = 0
end_of_blocks d (b ∷ bs) = max (end_of_block d b) (end_of_blocks d bs)

-- ---- the Duration Element

-- the number `n` as a binary64 in eight bytes, the most significant one first, for the Duration of an output. One that a binary64 can't express is
-- rounded to the nearest, and between two to the even one. Used by `children_lasting`, `duration_element` and others.
abbrev pub float_octets : ℕ → List ℕ
float_octets n = big_bytes 8 (to_bits binary64 (of_int binary64 (pos n)))

-- the Duration in the Info of an output that ends at the given tick. A Duration must be above 0, so an output that ends at 0 has a Void of the same
-- length. Used by `before_duration`, `info_element` and others.
abbrev pub duration_element : ℕ → Element
duration_element zero = void_element DURATION_LEN
duration_element (suc n) = element DURATION (float_octets (suc n))
