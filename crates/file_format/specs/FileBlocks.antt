-- The blocks and the damaged places of a file in the ticks of its Info: RFC 9559, section 5.1.2 (Info Element).
use Rattle.std.specs.Prelude.{ℕ, Bool, if◌then◌else◌, List}
use Rattle.mkv_schema.specs.declared.element.Header.{Header}
use Rattle.file_format.specs.Info.{file_scale, scale_without_limits}
use Rattle.block_format.specs.Events.{Event, events_of}

-- the nanoseconds per tick of the content `bytes` with the Segment header `segment`; its Info is read with the limits of a reader if `limits`.
-- `file_events` uses it.
abbrev pub scale_in : Bool → List ℕ → Header → ℕ
scale_in limits bytes segment = if limits then file_scale bytes segment else scale_without_limits bytes segment

-- the blocks and damage of the content `bytes` with the Segment header `segment`, with the limits of a reader if `limits`. The laws on files that a
-- reader with limits reads compare both.
abbrev pub file_events : Bool → List ℕ → Header → List Event
file_events limits bytes segment = events_of (record { limits = limits; scale = scale_in limits bytes segment }) bytes segment
