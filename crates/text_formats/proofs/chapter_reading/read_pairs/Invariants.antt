-- All chapters are the chapters that were read and the chapters of the rest.
use Rattle.std.proofs.Common.{◌≡◌, ◌+◌, ◌≤◌, length, None}
use Rattle.std.specs.Str.Lines.{lines}
use Rattle.text_formats.specs.Lines.{lines_of}
use Rattle.text_formats.specs.Turn.{pairs, in_front_of, timed_in}
use Rattle.text_formats.proofs.chapter_reading.read_pairs.Given as goal

abbrev pub invariant-loop-line : goal.invariant-loop-line
invariant-loop-line l = record {
  room : l.number + length l.rest ≤ length l.bytes;
  same : in_front_of l.list (pairs (lines l.rest) (l.number + 1) (timed_in l.due)) ≡ pairs (lines_of l.bytes) 1 None;
}

abbrev pub decreases-loop-line : goal.decreases-loop-line
decreases-loop-line l = length l.rest
