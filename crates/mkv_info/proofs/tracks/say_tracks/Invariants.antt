use Rattle.std.proofs.Common.{◌≡◌, drop}
use Rattle.mkv_lines.specs.Said.{SaysUpTo}
use Rattle.mkv_info.specs.Tracks.{track_lines}
use Rattle.mkv_info.proofs.tracks.say_tracks.Given as goal

abbrev pub invariant-loop-index : goal.invariant-loop-index
invariant-loop-index g l = record {
  report : g.P.Report.faults l.report ≡ g.P.Report.faults l.initial.report;
  way : SaysUpTo (g.P.Report.lines l.initial.report) (g.P.Report.lines l.report) (track_lines 0 l.tracks) (track_lines l.index (drop l.index l.tracks));
}
