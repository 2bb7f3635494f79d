-- The read sizes and the unread ones make the list of all sizes.
use Rattle.std.proofs.Common.{◌≡◌, ◌-◌, ◌*◌, ◌^◌, ◌≤◌, length, drop, sum, None}
use Rattle.lacing.specs.Reading.{sizes_in}
use Rattle.lacing.proofs.LaceLemmas.{with_front}
use Rattle.lacing.proofs.reading.spelled_frames.Given as goal

abbrev pub invariant-loop-kind : goal.invariant-loop-kind
invariant-loop-kind l = record {
  read : with_front l.sizes.items l.head (sizes_in l.kind (l.count - 1 - length l.sizes.items) l.before (drop l.head l.bytes))
      ≡ sizes_in l.kind (l.count - 1) None l.bytes;
  inside : l.head ≤ length l.bytes;
  few : length l.sizes.items ≤ l.count - 1;
  total : l.total ≡ sum l.sizes.items;
  small : l.total ≤ length l.sizes.items * 2 ^ 25;
  kept : l.sizes.capacity ≡ l.initial.sizes.capacity;
}

abbrev pub decreases-loop-kind : goal.decreases-loop-kind
decreases-loop-kind l = l.count - 1 - length l.sizes.items
