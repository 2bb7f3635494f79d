-- The rest has the same entries and first bad line, and adds what the text still lacks.
use Rattle.std.proofs.Common.{◌≡◌, ◌+◌, ◌≤◌, ◌++◌, length}
use Rattle.std.specs.Str.Lines.{lines}
use Rattle.text_formats.specs.Srt.{entries, before_head, text_of}
use Rattle.text_formats.specs.Walk.{bad_from, Behind}
use Rattle.text_formats.proofs.SrtLemmas.{adds}
use Rattle.text_formats.proofs.reading.read_text.Given as goal

abbrev pub invariant-loop-line : goal.invariant-loop-line
invariant-loop-line l = record {
  room : l.number + length l.rest ≤ l.before + length l.from;
  less : length l.rest ≤ length l.from;
  few : l.count + l.before ≤ l.number;
  text : l.text ++ adds l.count (before_head (lines l.rest)) ≡ text_of (before_head (lines l.from));
  same : entries (lines l.from) ≡ entries (lines l.rest);
  bad : bad_from Behind (l.before + 1) (lines l.from) ≡ bad_from Behind (l.number + 1) (lines l.rest);
}

abbrev pub decreases-loop-line : goal.decreases-loop-line
decreases-loop-line l = length l.rest
