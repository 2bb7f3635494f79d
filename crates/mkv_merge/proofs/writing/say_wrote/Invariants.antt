-- The lines of the first outputs were printed.
use Rattle.std.proofs.Common.{◌≡◌, drop, map}
use Rattle.mkv_lines.specs.Line.{wrote_blocks_line}
use Rattle.mkv_lines.specs.Said.{SaysUpTo}
use Rattle.remux_plan.specs.declared.summary.Written.{Written}
use Rattle.mkv_merge.proofs.writing.say_wrote.Given as goal

abbrev pub invariant-loop-output : goal.invariant-loop-output
invariant-loop-output g l = record {
  report : g.P.Report.faults l.report ≡ g.P.Report.faults l.initial.report;
  way : SaysUpTo (g.P.Report.lines l.initial.report) (g.P.Report.lines l.report) (map (λ (w : Written). wrote_blocks_line w.name w.blocks) l.outputs) (map (λ (w : Written). wrote_blocks_line w.name w.blocks) (drop l.output-index l.outputs));
}
