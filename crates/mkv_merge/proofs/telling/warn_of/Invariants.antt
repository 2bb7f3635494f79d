-- The warnings of the first damaged places were printed.
use Rattle.std.proofs.Common.{◌≡◌, drop, map}
use Rattle.mkv_lines.specs.Line.{warning_line}
use Rattle.mkv_lines.specs.Said.{SaysUpTo}
use Rattle.remux_plan.specs.declared.summary.InputDamage.{InputDamage}
use Rattle.mkv_merge.specs.Told.{damages_at}
use Rattle.mkv_merge.proofs.telling.warn_of.Given as goal

abbrev pub invariant-loop-each : goal.invariant-loop-each
invariant-loop-each g l = record {
  report : g.P.Report.faults l.report ≡ g.P.Report.faults l.initial.report;
  way : SaysUpTo (g.P.Report.lines l.initial.report) (g.P.Report.lines l.report) (map (λ (d : InputDamage). warning_line l.name d.damage) (damages_at l.input l.damages)) (map (λ (d : InputDamage). warning_line l.name d.damage) (damages_at l.input (drop l.each-index l.damages)));
}
