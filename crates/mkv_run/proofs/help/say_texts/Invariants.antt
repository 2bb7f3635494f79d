use Rattle.std.proofs.Common.{◌≡◌, drop}
use Rattle.mkv_lines.specs.Said.{SaysUpTo}
use Rattle.mkv_run.proofs.SayLemmas.{shown}
use Rattle.mkv_run.proofs.help.say_texts.Given as goal

abbrev pub invariant-loop-text : goal.invariant-loop-text
invariant-loop-text g l = record {
  report : g.R.Report.faults l.report ≡ g.R.Report.faults l.initial.report;
  way : SaysUpTo (g.R.Report.lines l.initial.report) (g.R.Report.lines l.report) (shown l.texts) (shown (drop l.text-index l.texts));
}
