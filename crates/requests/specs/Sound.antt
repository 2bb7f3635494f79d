-- Limits that every request keeps.
use Rattle.std.specs.Prelude.{◌≡◌, ◌<◌, ◌≤◌, ⊤, ℕ, ◌-◌, ◌^◌, true, nat_abs, List, length, All, IfSome, ℤ, false, slice_get}
use Rattle.requests.specs.declared.split.SpanWords.{SpanWords}
use Rattle.requests.specs.declared.split.SplitWords.{SplitWords}
use Rattle.requests.specs.declared.split.SplitWords.TheVariants.{Duration, Times, Parts, AllChapters, Chapters, Size}
use Rattle.requests.specs.Lists.{ascend, follow, differ}
use Rattle.requests.specs.declared.merge.FileWords.{FileWords}
use Rattle.requests.specs.declared.merge.MergeWords.{MergeWords}

-- `n` is from `lowest` to `highest`, both included. Used for the limits of option values. Used by `IsSoundSplit` and `IsSoundMerge`.
pub record IsWithin (lowest highest n : ℕ) : Type 0 where
  pub least : lowest ≤ n
  pub most : n ≤ highest

-- The times `times`, of the rule for parts of an output, are below 2^63 nanoseconds, and each is above the previous one. `IsSoundSplit` uses it.
pub record AreTimes (times : List ℕ) : Type 0 where
  pub ascend : ascend times ≡ true
  pub below : All (λ t. t < 2 ^ 63) times

-- The start and the end of the time span `span`, of the rule for parts, are below 2^63 nanoseconds. `AreSpans` uses it.
pub record IsSpan (span : SpanWords) : Type 0 where
  pub start : span.start < 2 ^ 63
  pub end : IfSome span.end (λ t. t < 2 ^ 63)

-- In `spans`, of the rule for parts, no time span begins before the end of the previous one, and all are below 2^63 nanoseconds. `IsSoundSplit` uses
-- it.
pub record AreSpans (spans : List SpanWords) : Type 0 where
  pub follow : follow 0 spans ≡ true
  pub each : All IsSpan spans

-- There are at most 1024 SegmentUUIDs in `uuids`, all different. The options of `merge` must keep it.
pub record AreUuids (uuids : List ℕ) : Type 0 where
  pub few : length uuids ≤ 1024
  pub differ : differ uuids ≡ true

-- The rule for parts of an output is within its limits: a positive duration in nanoseconds or size in bytes, or times or time spans that ascend.
-- `merge` requires it.
abbrev pub IsSoundSplit : SplitWords → Type 0
IsSoundSplit (Duration by) = IsWithin 1 (2 ^ 63 - 1) by
IsSoundSplit (Times at) = AreTimes at
IsSoundSplit (Parts spans) = AreSpans spans
IsSoundSplit AllChapters = ⊤
IsSoundSplit (Chapters numbers) = ⊤
IsSoundSplit (Size limit) = IsWithin 1 (2 ^ 64 - 1) limit

-- No track of the input `file` is delayed by 2^55 nanoseconds or more, in either direction. The reading of an input requires it.
pub record IsSoundFile (file : FileWords) : Type 0 where
  pub delays : All (λ (sync : ℕ × ℤ). nat_abs sync.1 < 2 ^ 55) file.syncs

-- The options `words` of a merge are within their limits: tick, Clusters, rule for parts, SegmentUUIDs and delays. There are 1 to 64 inputs, and the
-- first isn't appended to another. `merge` requires it.
pub record IsSoundMerge (words : MergeWords) : Type 0 where
  pub scale : IsWithin 1000 10000000 words.scale
  pub blocks : IsWithin 1 65535 words.blocks
  pub span : IsWithin 100000000 32000000000 words.span
  pub split : IfSome words.split IsSoundSplit
  pub uuids : AreUuids words.uuids
  pub files : IsWithin 1 64 (length words.files)
  pub first : IfSome (slice_get words.files 0) (λ (file : FileWords). file.appended ≡ false)
  pub each : All IsSoundFile words.files
