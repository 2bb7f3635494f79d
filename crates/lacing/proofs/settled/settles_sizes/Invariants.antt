-- The unread sizes settle the lace if and only if all sizes do.
use Rattle.std.proofs.Common.{◌≡◌, ◌-◌, ◌*◌, ◌^◌, ◌≤◌, length, drop, None}
use Rattle.lacing.specs.Reading.{sizes_in, with_last}
use Rattle.lacing.specs.Settled.{has_head_within, with_zeros}
use Rattle.lacing.proofs.SettledLemmas.{settles_rest}
use Rattle.lacing.proofs.settled.settles_sizes.Given as goal

abbrev pub invariant-loop-left : goal.invariant-loop-left
invariant-loop-left l = record {
  settles : settles_rest l.front l.len l.head l.total (sizes_in l.kind l.left l.before (drop l.head (with_zeros l.front l.len)))
      ≡ has_head_within l.front (with_last l.len (sizes_in l.kind (l.count - 1) None (with_zeros l.front l.len)));
  inside : l.head ≤ length l.front;
  few : l.left ≤ l.count - 1;
  small : l.total ≤ (l.count - 1 - l.left) * 2 ^ 25;
}

abbrev pub decreases-loop-left : goal.decreases-loop-left
decreases-loop-left l = l.left
