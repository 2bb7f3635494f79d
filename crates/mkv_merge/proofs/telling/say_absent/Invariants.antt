-- The lines of the first files were printed.
use Rattle.std.proofs.Common.{◌≡◌, flat_map}
use Rattle.std.specs.List.{enumerate_from}
use Rattle.mkv_lines.specs.Said.{SaysUpTo}
use Rattle.mkv_merge.specs.Merge.{lines_absent, lines_before}
use Rattle.mkv_merge.specs.Prepared.{reads_in}
use Rattle.mkv_merge.proofs.TellingLemmas.{files_left}
use Rattle.mkv_merge.proofs.telling.say_absent.Given as goal

abbrev pub invariant-loop-k : goal.invariant-loop-k
invariant-loop-k g l = record {
  report : g.P.Report.faults l.report ≡ g.P.Report.faults l.initial.report;
  way : SaysUpTo (g.P.Report.lines l.initial.report) (g.P.Report.lines l.report) (lines_before l.words (reads_in l.inputs)) (flat_map (lines_absent l.words) (enumerate_from l.k (files_left l.words.files l.inputs l.k)));
}
