-- The lines of the first counts were printed.
use Rattle.std.proofs.Common.{◌≡◌, drop, map}
use Rattle.mkv_lines.specs.Line.{more_damages_line}
use Rattle.mkv_lines.specs.Said.{SaysUpTo}
use Rattle.remux_plan.specs.declared.summary.MoreDamage.{MoreDamage}
use Rattle.mkv_merge.specs.Told.{more_at}
use Rattle.mkv_merge.proofs.telling.warn_more.Given as goal

abbrev pub invariant-loop-each : goal.invariant-loop-each
invariant-loop-each g l = record {
  report : g.P.Report.faults l.report ≡ g.P.Report.faults l.initial.report;
  way : SaysUpTo (g.P.Report.lines l.initial.report) (g.P.Report.lines l.report) (map (λ (m : MoreDamage). more_damages_line l.name m.count) (more_at l.input l.more)) (map (λ (m : MoreDamage). more_damages_line l.name m.count) (more_at l.input (drop l.each-index l.more)));
}
