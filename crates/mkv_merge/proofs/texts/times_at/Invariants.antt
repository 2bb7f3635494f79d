-- The timestamps that the first items give to the input are in the list, and the others follow.
use Rattle.std.proofs.Common.{◌≡◌, ◌++◌, drop}
use Rattle.merge_inputs.specs.Input.{listings_in}
use Rattle.mkv_merge.specs.Timed.{shared_at}
use Rattle.mkv_merge.proofs.texts.times_at.Given as goal

abbrev pub invariant-loop-each : goal.invariant-loop-each
invariant-loop-each l = listings_in l.times ++ shared_at l.input (drop l.each-index l.shared) ≡ shared_at l.input l.shared
