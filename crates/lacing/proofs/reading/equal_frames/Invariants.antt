-- The sizes up to now are equal, and there is room for the others.
use Rattle.std.proofs.Common.{◌≡◌, ◌-◌, ◌≤◌, length, replicate}
use Rattle.lacing.proofs.reading.equal_frames.Given as goal

abbrev pub invariant-loop-sizes : goal.invariant-loop-sizes
invariant-loop-sizes l = record {
  equal : l.sizes.items ≡ replicate (length l.sizes.items) l.size;
  few : length l.sizes.items ≤ l.count;
  kept : l.sizes.capacity ≡ l.initial.sizes.capacity;
}

abbrev pub decreases-loop-sizes : goal.decreases-loop-sizes
decreases-loop-sizes l = l.count - length l.sizes.items
