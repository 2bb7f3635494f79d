-- The warnings of the first damaged places were printed.
use Rattle.std.proofs.Common.{◌≡◌, drop, map}
use Rattle.mkv_lines.specs.Line.{warning_line}
use Rattle.mkv_lines.specs.Said.{SaysUpTo}
use Rattle.mkv_extract.proofs.telling.warn.Given as goal

abbrev pub invariant-loop-damage : goal.invariant-loop-damage
invariant-loop-damage g l = record {
  report : g.P.Report.faults l.report ≡ g.P.Report.faults l.initial.report;
  way : SaysUpTo (g.P.Report.lines l.initial.report) (g.P.Report.lines l.report) (map (warning_line l.name) l.first) (map (warning_line l.name) (drop l.damage-index l.first));
}
