use Rattle.std.proofs.Common.{◌≡◌, ◌+◌, ◌≤◌}
use Rattle.mkv_io.specs.Told.{IfVisible}
use Rattle.cluster_reader.specs.Places.{turns_left}
use Rattle.cluster_reader.specs.Reading.{left_of, read_to}
use Rattle.cluster_reader.specs.Walks.{IsReady, IsSameWalk, shown}
use Rattle.cluster_reader.proofs.next_step.next_step.Given as goal

abbrev pub invariant-loop-step : goal.invariant-loop-step
invariant-loop-step g l = record {
  standing : g.R.Reads.standing l.src ≡ g.R.Reads.standing l.initial.src;
  faults : g.R.Reads.reading_faults l.src ≡ g.R.Reads.reading_faults l.initial.src;
  same : IsSameWalk l.fn.walk l.walk;
  ready : IsReady (g.R.Reads.files (g.R.Reads.standing l.src)) l.walk;
  left : IfVisible ((g.R.Reads.files (g.R.Reads.standing l.initial.src)).content l.fn.walk.file.n) (λ bytes. left_of bytes (shown l.walk) ≡ left_of bytes (shown l.fn.walk));
  notes : l.walk.stopped ≡ l.fn.walk.stopped;
  on : l.fn.walk.place.at ≤ l.walk.place.at;
  pays : g.R.Reads.octets_read l.src + read_to (shown l.fn.walk) ≤ g.R.Reads.octets_read l.initial.src + read_to (shown l.walk);
}

abbrev pub decreases-loop-step : goal.decreases-loop-step
decreases-loop-step g l = turns_left l.walk.place
