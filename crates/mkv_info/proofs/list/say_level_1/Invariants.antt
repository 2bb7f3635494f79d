use Rattle.std.proofs.Common.{◌≡◌, ◌+◌, ◌-◌, ◌≤◌, map}
use Rattle.mkv_io.specs.Told.{IfVisible}
use Rattle.mkv_schema.specs.Elements.{level_1}
use Rattle.mkv_schema.specs.Outline.{segment_run}
use Rattle.elements.specs.Window.{HasNotPassed, Holds, end_ahead}
use Rattle.mkv_lines.specs.Line.{level_1_line}
use Rattle.mkv_lines.specs.Said.{SaysUpTo}
use Rattle.mkv_info.proofs.list.say_level_1.Given as goal

abbrev pub invariant-loop-header : goal.invariant-loop-header
invariant-loop-header g l = record {
  place : l.at ≤ l.end;
  standing : g.R.Reads.standing l.src ≡ g.R.Reads.standing l.initial.src;
  reading : g.R.Reads.reading_faults l.src ≡ g.R.Reads.reading_faults l.initial.src;
  report : g.P.Report.faults l.report ≡ g.P.Report.faults l.initial.report;
  holds : IfVisible ((g.R.Reads.files (g.R.Reads.standing l.initial.src)).content l.file.n) (λ bytes. Holds bytes l.window);
  stands : HasNotPassed l.window l.at ((g.R.Reads.files (g.R.Reads.standing l.initial.src)).size l.file.n);
  pays : g.R.Reads.octets_read l.src ≤ g.R.Reads.octets_read l.initial.src + end_ahead l.window;
  way : IfVisible ((g.R.Reads.files (g.R.Reads.standing l.initial.src)).content l.file.n) (λ bytes. SaysUpTo (g.P.Report.lines l.initial.report) (g.P.Report.lines l.report) (map level_1_line (segment_run bytes l.outline.segment).list) (map level_1_line (level_1 bytes l.segment.size l.at l.end).list));
}

abbrev pub decreases-loop-header : goal.decreases-loop-header
decreases-loop-header g l = l.end - l.at
