-- The frames of the first links are counted, and the other counts are unchanged.
use Rattle.std.proofs.Common.{◌≡◌, ◌≤◌, ◌+◌, ℕ, ◌++◌, take, drop}
use Rattle.std.specs.List.{All}
use Rattle.lanes.specs.Frames.{by_head, counted_for}
use Rattle.lanes.proofs.ends.count_frames.Given as goal

abbrev pub invariant-loop-k : goal.invariant-loop-k
invariant-loop-k l = record {
  exact : take l.k l.counts ++ counted_for (by_head l.cursor.block) (drop l.k l.counts) (drop l.k l.links) ≡ counted_for (by_head l.cursor.block) l.initial.counts l.links;
  left : drop l.k l.counts ≡ drop l.k l.initial.counts;
  few : (most : ℕ) → All (λ n. n ≤ most) l.initial.counts → All (λ n. n ≤ most + 256) l.counts;
}
