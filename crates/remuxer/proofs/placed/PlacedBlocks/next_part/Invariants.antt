use Rattle.std.proofs.Common.{◌≡◌, ◌≤◌}
use Rattle.mkv_io.specs.Sources.{live_files}
use Rattle.time_merge.specs.Merge.{IsTold}
use Rattle.remuxer.specs.Places.{StandsAhead, parts_left, turns}
use Rattle.remuxer.specs.Taking.{GoesOn}
use Rattle.remuxer.proofs.placed.PlacedBlocks.next_part.Given as goal

abbrev pub invariant-passed : goal.invariant-passed
invariant-passed g l = record {
  stands : StandsAhead l.self;
  goes : GoesOn g.R.Reads 0 l.initial.src l.src l.initial.self l.self;
  standing : g.R.Reads.standing l.src ≡ g.R.Reads.standing l.initial.src;
  reading : g.R.Reads.reading_faults l.src ≡ g.R.Reads.reading_faults l.initial.src;
  on : turns l.self ≤ turns l.initial.self;
  found : IsTold (live_files g.R.Reads l.initial.src) l.initial.self.merge → parts_left (live_files g.R.Reads l.src) l.self ≡ parts_left (live_files g.R.Reads l.initial.src) l.initial.self;
}

abbrev pub decreases-passed : goal.decreases-passed
decreases-passed g l = turns l.self
