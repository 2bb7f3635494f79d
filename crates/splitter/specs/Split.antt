-- The times of cuts in a merged list, and the output tracks whose keyframes allow one, by this project's rules.
use Rattle.std.specs.Prelude.{ℕ, ◌+◌, ◌==◌, nat_lt, nat_le, Bool, true, false, ◌&&◌, ◌||◌, List, Option, Some, None}
use Rattle.std.specs.List.{list_any, position}
use Rattle.std.specs.Option.{option_map_or}
use Rattle.requests.specs.declared.split.SpanWords.{SpanWords}
use Rattle.splitter.specs.declared.spec.SplitSpec.{SplitSpec}
use Rattle.splitter.specs.declared.spec.SplitSpec.TheVariants.{Whole, Duration, Times, Parts}

-- ---- times in nanoseconds

-- The bound `bound` is after the start `start` of a section, and not after `time`; all are in nanoseconds. For `is_over`, when `merge` cuts its
-- output.
abbrev pub is_within : ℕ → ℕ → ℕ → Bool
is_within start time bound = nat_lt start bound && nat_le bound time

-- A bound of the span `span` is after the start `start` of a section, and not after `time`; all are in nanoseconds. For `is_over`, when `merge` cuts
-- its output.
abbrev pub passes : ℕ → ℕ → SpanWords → Bool
passes start time span = is_within start time span.start || option_map_or (is_within start time) span.end false

-- A section that started at `start` is over at `time`. Its duration has passed, or a time for a cut is between both; all are in nanoseconds. For the
-- cuts of `merge --split`.
abbrev pub is_over : SplitSpec → ℕ → ℕ → Bool
is_over Whole start time = false
is_over (Duration by) start time = nat_le (start + by) time
is_over (Times at) start time = list_any (is_within start time) at
is_over (Parts spans) start time = list_any (passes start time) spans

-- The time at the end of a section, if there is one, isn't after `time`; both are in nanoseconds. For the contracts of the functions that find a
-- section's end.
abbrev pub has_come : Option ℕ → ℕ → Bool
has_come None time = false
has_come (Some end) time = nat_le end time

-- The time `time` is in the span `span`, which may have no end; all are in nanoseconds. For `keeps`, when `merge` cuts its output.
abbrev pub holds : ℕ → SpanWords → Bool
holds time span = nat_le span.start time && option_map_or (λ end. nat_lt time end) span.end true

-- A section that starts at `start`, in nanoseconds, is written as a part. If several bounds are between two sections, the last one decides. For the
-- sections that `merge --split` writes.
abbrev pub keeps : SplitSpec → ℕ → Bool
keeps Whole start = true
keeps (Duration by) start = true
keeps (Times at) start = true
keeps (Parts spans) start = list_any (holds start) spans

-- ---- output tracks

-- An output may be cut before keyframes of its output track number `lane`, counted from 0. It is the first video track, or there is none. `videos`
-- marks the video tracks. For the cuts of `merge --split`.
abbrev pub is_driver : List Bool → ℕ → Bool
is_driver videos lane = option_map_or (λ first. first == lane) (position (λ video. video) videos) true
