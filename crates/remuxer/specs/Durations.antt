-- The durations of frames that an output needs for its Duration: RFC 9559, section 5.1.4 (Tracks Element).
use Rattle.std.specs.Prelude.{ℕ, [], if◌then◌else◌}
use Rattle.output_model.specs.Duration.{durations_of}
use Rattle.output_model.specs.declared.durations.Durations.{Durations}
use Rattle.output_model.specs.declared.front.Front.{Front}

-- the durations of frames on the output tracks of `front`, with `scale` nanoseconds per tick, for the Duration of an output. None is known without a
-- Duration in the Info. The contract of the function of the same name states it.
abbrev pub durations_for : ℕ → Front → Durations
durations_for scale front = if front.duration then durations_of scale front.tracks else record { scale = scale; frames = [] }
