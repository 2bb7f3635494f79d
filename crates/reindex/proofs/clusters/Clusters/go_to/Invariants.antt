-- The Elements that were passed are before the offset, and the distance bounds the bytes that were read.
use Rattle.std.proofs.Common.{◌≡◌, ◌≤◌, List}
use Rattle.mkv_io.specs.Told.{IfVisible}
use Rattle.mkv_schema.specs.declared.element.Header.{Header}
use Rattle.elements.specs.Window.{HasNotPassed, MovesTo}
use Rattle.reindex.specs.Clusters.{HasComeTo, StaysReady, steps_left}
use Rattle.reindex.proofs.clusters.Clusters.go_to.Given as goal

abbrev pub invariant-passing : goal.invariant-passing
invariant-passing g l = record {
  ready : StaysReady (g.R.Reads.files (g.R.Reads.standing l.src)) l.initial.self l.self;
  reached : l.self.reached ≡ l.initial.self.reached;
  come : IfVisible ((g.R.Reads.files (g.R.Reads.standing l.initial.src)).content l.initial.self.level.file.n) (λ bytes. (list : List Header) → HasComeTo bytes list l.initial.self → HasComeTo bytes list l.self);
  standing : g.R.Reads.standing l.src ≡ g.R.Reads.standing l.initial.src;
  faults : g.R.Reads.reading_faults l.src ≡ g.R.Reads.reading_faults l.initial.src;
  octets : g.R.Reads.octets_read l.initial.src ≤ g.R.Reads.octets_read l.src;
  moves : HasNotPassed l.initial.self.level.ahead l.initial.self.level.at ((g.R.Reads.files (g.R.Reads.standing l.initial.src)).size l.initial.self.level.file.n)
      → MovesTo ((g.R.Reads.files (g.R.Reads.standing l.initial.src)).size l.initial.self.level.file.n) l.self.level.at l.initial.self.level.ahead l.self.level.ahead (g.R.Reads.octets_read l.initial.src) (g.R.Reads.octets_read l.src);
}

abbrev pub decreases-passing : goal.decreases-passing
decreases-passing g l = steps_left l.self
