-- The limits that every value of an option keeps once it was read.
use Rattle.std.specs.Prelude.{◌<◌, ⊤, ◌^◌, nat_abs}
use Rattle.word_values.specs.declared.values.Value.{Value}
use Rattle.word_values.specs.declared.values.Value.TheVariants.{Scale, Blocks, Span, Split, Uuids, TrackDelay}
pub use Rattle.requests.specs.Sound.{IsWithin, AreTimes, IsSpan, AreSpans, AreUuids, IsSoundSplit}

-- The value of an option keeps its limits: nanoseconds per tick, a Cluster's blocks and duration, a delay, a split and identifiers have some. It
-- holds for each value that was read; only proofs cite it.
abbrev pub IsSoundValue : Value → Type 0
IsSoundValue (Scale scale) = IsWithin 1000 10000000 scale
IsSoundValue (Blocks blocks) = IsWithin 1 65535 blocks
IsSoundValue (Span span) = IsWithin 100000000 32000000000 span
IsSoundValue (Split split) = IsSoundSplit split
IsSoundValue (Uuids uuids) = AreUuids uuids
IsSoundValue (TrackDelay id delay) = nat_abs delay < 2 ^ 55
IsSoundValue _ = ⊤
