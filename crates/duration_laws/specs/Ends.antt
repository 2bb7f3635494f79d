-- The end of an output is the last end of its blocks: RFC 9559, sections 5.1.2 (Info Element), 5.1.3 (Cluster Element) and 5.1.4 (Tracks Element).
use Rattle.std.specs.Prelude.{◌≡◌, ◌≤◌, ℕ, List, length, All, Any, IfSome}
use Rattle.mkv_io.specs.Faults.{last_count, counted}
use Rattle.output_model.specs.OutputBlock.{OutputBlock}
use Rattle.output_model.specs.declared.durations.Durations.{Durations}
use Rattle.output_model.specs.Duration.{end_of_block, end_of_blocks}

-- The block `b` of an output ends at the tick `end` or earlier. It begins there or earlier if its tick has at most 64 bits. Its BlockDuration, if it
-- has one, is over by then, even if it is 0. `d` has the duration of a frame on each track, in nanoseconds. `IsLastEnd` requires it of each block.
pub record EndsBy (d : Durations) (end : ℕ) (b : OutputBlock) : Type 0 where
  pub begins : b.tick ≤ last_count → b.tick ≤ end
  pub ends : end_of_block d b ≤ end
  pub shown : IfSome b.duration (λ ticks. counted b.tick ticks ≤ end)

-- Each of the blocks `bs` of an output ends at the tick `end` or earlier. If there are blocks, one of them ends exactly there. `d` has the duration
-- of a frame on each track. The law `the_duration_is_the_last_end` requires it.
pub record IsLastEnd (d : Durations) (bs : List OutputBlock) (end : ℕ) : Type 0 where
  pub all : All (EndsBy d end) bs
  pub one : 1 ≤ length bs → Any (λ b. end_of_block d b ≡ end) bs

-- The Duration of an output in ticks, the end of its blocks `bs`, is their last end. `d` has the duration of a frame on each track. It is the law
-- `the_duration_is_the_last_end`.
abbrev pub DurationIsTheLastEnd : Type 0
DurationIsTheLastEnd = (d : Durations) (bs : List OutputBlock) → IsLastEnd d bs (end_of_blocks d bs)
