-- The lines of the first targets were printed, and their numbers are gathered.
use Rattle.std.proofs.Common.{◌≡◌, drop, map, take}
use Rattle.mkv_lines.specs.Said.{SaysUpTo}
use Rattle.mkv_extract.specs.Extract.{absent}
use Rattle.mkv_extract.specs.Told.{line_of}
use Rattle.mkv_extract.specs.ToldNumbers.{HasNumbersOf}
use Rattle.mkv_extract.proofs.ToldLemmas.{absent_left}
use Rattle.mkv_extract.proofs.telling.say_absent.Given as goal

abbrev pub invariant-loop-target : goal.invariant-loop-target
invariant-loop-target g l = record {
  report : g.P.Report.faults l.report ≡ g.P.Report.faults l.initial.report;
  numbers : HasNumbersOf l.count (take l.target-index l.targets) l.told.keys;
  way : SaysUpTo (g.P.Report.lines l.initial.report) (g.P.Report.lines l.report) (map (line_of l.missing l.name) (absent l.count l.targets)) (map (line_of l.missing l.name) (absent_left l.count (take l.target-index l.targets) (drop l.target-index l.targets)));
}
