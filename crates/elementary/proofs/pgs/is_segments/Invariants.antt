-- The rest is a join exactly if the frame is.
use Rattle.std.proofs.Common.{◌≡◌, length, is_some}
use Rattle.elementary.specs.Pgs.{segments_of}
use Rattle.elementary.proofs.pgs.is_segments.Given as goal

abbrev pub invariant-loop-behind : goal.invariant-loop-behind
invariant-loop-behind l = is_some (segments_of l.rest) ≡ is_some (segments_of l.frame)

abbrev pub decreases-loop-behind : goal.decreases-loop-behind
decreases-loop-behind l = length l.rest
