-- The lines of the first numbers were printed.
use Rattle.std.proofs.Common.{◌≡◌, nat_le, drop, filter, map}
use Rattle.mkv_lines.specs.Line.{no_track_line}
use Rattle.mkv_lines.specs.Said.{SaysUpTo}
use Rattle.mkv_merge.specs.Merge.{absent_of}
use Rattle.mkv_merge.proofs.telling.say_absent_of.Given as goal

abbrev pub invariant-loop-number : goal.invariant-loop-number
invariant-loop-number g l = record {
  report : g.P.Report.faults l.report ≡ g.P.Report.faults l.initial.report;
  way : SaysUpTo (g.P.Report.lines l.initial.report) (g.P.Report.lines l.report) (map (no_track_line l.file.name) (absent_of l.file l.count)) (map (no_track_line l.file.name) (filter (λ n. nat_le l.count n) (drop l.number-index l.file.named)));
}
