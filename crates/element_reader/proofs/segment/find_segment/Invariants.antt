use Rattle.std.proofs.Common.{◌≡◌, ◌-◌, ◌≤◌}
use Rattle.mkv_io.specs.Sources.{OnlyReads}
use Rattle.mkv_io.specs.Told.{IfVisible}
use Rattle.elements.specs.Window.{Holds, HasNotPassed, MovesTo}
use Rattle.element_reader.specs.Segment.{segment_from}
use Rattle.element_reader.proofs.segment.find_segment.Given as goal

abbrev pub invariant-loop-at : goal.invariant-loop-at
invariant-loop-at g l = record {
  begin : l.fn.from ≤ l.at;
  place : l.at ≤ l.total;
  same : OnlyReads g.R.Reads l.initial.src l.src;
  faults : g.R.Reads.reading_faults l.src ≡ g.R.Reads.reading_faults l.initial.src;
  holds : IfVisible ((g.R.Reads.files (g.R.Reads.standing l.initial.src)).content l.file.n) (λ bytes. Holds bytes l.window);
  rest : IfVisible ((g.R.Reads.files (g.R.Reads.standing l.initial.src)).content l.file.n) (λ bytes. segment_from bytes l.fn.from ≡ segment_from bytes l.at);
  moves : HasNotPassed l.fn.window l.fn.from l.total → MovesTo l.total l.at l.fn.window l.window (g.R.Reads.octets_read l.initial.src) (g.R.Reads.octets_read l.src);
}

abbrev pub decreases-loop-at : goal.decreases-loop-at
decreases-loop-at g l = l.total - l.at
