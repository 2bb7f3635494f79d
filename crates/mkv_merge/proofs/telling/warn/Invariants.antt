-- The warnings of the first inputs were printed.
use Rattle.std.proofs.Common.{◌≡◌, drop}
use Rattle.mkv_lines.specs.Said.{SaysUpTo}
use Rattle.mkv_merge.specs.Told.{warnings_from}
use Rattle.mkv_merge.proofs.telling.warn.Given as goal

abbrev pub invariant-loop-input : goal.invariant-loop-input
invariant-loop-input g l = record {
  report : g.P.Report.faults l.report ≡ g.P.Report.faults l.initial.report;
  way : SaysUpTo (g.P.Report.lines l.initial.report) (g.P.Report.lines l.report) (warnings_from l.summary 0 l.words.files) (warnings_from l.summary l.input (drop l.input l.words.files));
}
