use Rattle.std.proofs.Common.{◌≡◌, ◌-◌, ◌≤◌}
use Rattle.mkv_io.specs.Sources.{OnlyReads}
use Rattle.mkv_io.specs.Told.{IfVisible}
use Rattle.elements.specs.Window.{Holds, HasNotPassed, MovesTo}
use Rattle.elements.specs.Walk.{cluster_end}
use Rattle.elements.proofs.walk.cluster_end.Given as goal

abbrev pub invariant-loop-at : goal.invariant-loop-at
invariant-loop-at g l = record {
  begin : l.fn.from ≤ l.at;
  place : l.at ≤ l.end;
  same : OnlyReads g.R.Reads l.initial.src l.src;
  faults : g.R.Reads.reading_faults l.src ≡ g.R.Reads.reading_faults l.initial.src;
  holds : IfVisible ((g.R.Reads.files (g.R.Reads.standing l.initial.src)).content l.file.n) (λ bytes. Holds bytes (g.W.Lookahead.ahead l.window));
  rest : IfVisible ((g.R.Reads.files (g.R.Reads.standing l.initial.src)).content l.file.n) (λ bytes. cluster_end bytes l.fn.from l.end ≡ cluster_end bytes l.at l.end);
  moves : HasNotPassed (g.W.Lookahead.ahead l.fn.window) l.fn.from ((g.R.Reads.files (g.R.Reads.standing l.initial.src)).size l.file.n) → MovesTo ((g.R.Reads.files (g.R.Reads.standing l.initial.src)).size l.file.n) l.at (g.W.Lookahead.ahead l.fn.window) (g.W.Lookahead.ahead l.window) (g.R.Reads.octets_read l.initial.src) (g.R.Reads.octets_read l.src);
}

abbrev pub decreases-loop-at : goal.decreases-loop-at
decreases-loop-at g l = l.end - l.at
