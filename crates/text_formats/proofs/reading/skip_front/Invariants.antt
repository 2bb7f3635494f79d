-- The rest has the same entries and the same first bad line.
use Rattle.std.proofs.Common.{◌≡◌, ◌+◌, ◌≤◌, length}
use Rattle.std.specs.Str.Lines.{lines}
use Rattle.text_formats.specs.Srt.{entries, first_bad}
use Rattle.text_formats.specs.Walk.{bad_from, Front}
use Rattle.text_formats.proofs.reading.skip_front.Given as goal

abbrev pub invariant-loop-line : goal.invariant-loop-line
invariant-loop-line l = record {
  room : l.number + length l.rest ≤ length l.text;
  same : entries (lines l.text) ≡ entries (lines l.rest);
  bad : first_bad (lines l.text) ≡ bad_from Front (l.number + 1) (lines l.rest);
}

abbrev pub decreases-loop-line : goal.decreases-loop-line
decreases-loop-line l = length l.rest
