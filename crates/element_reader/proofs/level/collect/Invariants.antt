use Rattle.std.proofs.Common.{◌≡◌, ◌-◌, ◌≤◌}
use Rattle.std.specs.List.{All}
use Rattle.mkv_io.specs.Sources.{OnlyReads}
use Rattle.mkv_io.specs.Told.{IfVisible}
use Rattle.mkv_schema.specs.Elements.{level_1}
use Rattle.mkv_schema.specs.Outline.{segment_run}
use Rattle.elements.specs.Window.{Holds, HasNotPassed, MovesTo}
use Rattle.element_reader.specs.Collected.{IsInFile}
use Rattle.element_reader.specs.Level.{IsOnWay}
use Rattle.element_reader.proofs.level.collect.Given as goal

abbrev pub invariant-loop-kept : goal.invariant-loop-kept
invariant-loop-kept g l = record {
  begin : l.fn.segment.body ≤ l.at;
  place : l.at ≤ l.bound;
  within : l.bound ≤ l.total;
  whole : All (IsInFile l.total) l.kept.others.items;
  same : OnlyReads g.R.Reads l.initial.src l.src;
  faults : g.R.Reads.reading_faults l.src ≡ g.R.Reads.reading_faults l.initial.src;
  holds : IfVisible ((g.R.Reads.files (g.R.Reads.standing l.initial.src)).content l.file.n) (λ bytes. Holds bytes l.window);
  way : IfVisible ((g.R.Reads.files (g.R.Reads.standing l.initial.src)).content l.file.n) (λ bytes. IsOnWay l.fn.held (segment_run bytes l.fn.segment) (level_1 bytes l.fn.segment.size l.at l.bound) l.kept);
  moves : HasNotPassed l.fn.window l.fn.segment.body l.total → MovesTo l.total l.at l.fn.window l.window (g.R.Reads.octets_read l.initial.src) (g.R.Reads.octets_read l.src);
}

abbrev pub decreases-loop-kept : goal.decreases-loop-kept
decreases-loop-kept g l = l.bound - l.at
