use Rattle.time_merge.specs.Merge.{IsReady}
use Rattle.writing_tests.proofs.telling.tell_merge.Given as goal

abbrev pub invariant-loop : goal.invariant-loop
invariant-loop g l = IsReady (g.R.Reads.files (g.R.Reads.standing l.src)) l.merge
