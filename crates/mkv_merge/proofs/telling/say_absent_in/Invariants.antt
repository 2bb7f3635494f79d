-- The lines of the first pairs were printed.
use Rattle.std.proofs.Common.{◌≡◌, drop}
use Rattle.mkv_lines.specs.Said.{SaysUpTo}
use Rattle.mkv_merge.specs.Merge.{lines_absent_in}
use Rattle.mkv_merge.proofs.telling.say_absent_in.Given as goal

abbrev pub invariant-loop-pair : goal.invariant-loop-pair
invariant-loop-pair g l = record {
  report : g.P.Report.faults l.report ≡ g.P.Report.faults l.initial.report;
  way : SaysUpTo (g.P.Report.lines l.initial.report) (g.P.Report.lines l.report) (lines_absent_in l.order l.input l.file l.count) (lines_absent_in (drop l.pair-index l.order) l.input l.file l.count);
}
