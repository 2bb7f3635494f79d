-- The lines of the first targets were printed.
use Rattle.std.proofs.Common.{◌≡◌, drop, map}
use Rattle.mkv_lines.specs.Line.{wrote_line}
use Rattle.mkv_lines.specs.Said.{SaysUpTo}
use Rattle.mkv_extract.specs.Told.{written}
use Rattle.mkv_extract.proofs.telling.say_wrote.Given as goal

abbrev pub invariant-loop-target : goal.invariant-loop-target
invariant-loop-target g l = record {
  report : g.P.Report.faults l.report ≡ g.P.Report.faults l.initial.report;
  way : SaysUpTo (g.P.Report.lines l.initial.report) (g.P.Report.lines l.report) (map wrote_line (written l.count l.targets)) (map wrote_line (written l.count (drop l.target-index l.targets)));
}
