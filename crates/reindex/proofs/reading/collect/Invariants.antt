-- The points are the points of the blocks passed, and the advances of both walks bound the bytes that were read.
use Rattle.std.proofs.Common.{◌≡◌, ◌≤◌, ◌+◌, ◌-◌, length}
use Rattle.mkv_io.specs.Told.{IfVisible}
use Rattle.elements.specs.Window.{HasNotPassed, end_ahead}
use Rattle.cluster_reader.specs.Reading.{CanRead, left_of, read_to}
use Rattle.output_model.specs.declared.TheConstants.{MAX_CUES}
use Rattle.reindex.specs.Clusters.{StaysReady}
use Rattle.reindex.proofs.PointsLemmas.{HaveRead}
use Rattle.reindex.proofs.reading.collect.Given as goal

abbrev pub invariant-steps : goal.invariant-steps
invariant-steps g l = record {
  read : IfVisible ((g.R.Reads.files (g.R.Reads.standing l.initial.src)).content l.initial.cursor.file.n)
      (λ bytes. HaveRead l.by bytes l.initial.clusters l.clusters (left_of bytes l.initial.cursor) (left_of bytes l.cursor) l.points);
  few : length l.points ≤ MAX_CUES;
  ready : CanRead (g.R.Reads.files (g.R.Reads.standing l.src)) l.cursor;
  file : l.cursor.file ≡ l.initial.cursor.file;
  lists : StaysReady (g.R.Reads.files (g.R.Reads.standing l.src)) l.initial.clusters l.clusters;
  standing : g.R.Reads.standing l.src ≡ g.R.Reads.standing l.initial.src;
  faults : g.R.Reads.reading_faults l.src ≡ g.R.Reads.reading_faults l.initial.src;
  window : HasNotPassed l.clusters.level.ahead l.clusters.level.at ((g.R.Reads.files (g.R.Reads.standing l.initial.src)).size l.initial.cursor.file.n);
  pays : g.R.Reads.octets_read l.src + read_to l.initial.cursor + end_ahead l.initial.clusters.level.ahead
      ≤ g.R.Reads.octets_read l.initial.src + read_to l.cursor + end_ahead l.clusters.level.ahead;
}

abbrev pub decreases-steps : goal.decreases-steps
decreases-steps g l = l.cursor.place.end - l.cursor.place.at
