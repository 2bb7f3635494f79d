use Rattle.std.proofs.Common.{◌≡◌, drop}
use Rattle.text_formats.specs.Srt.{has_arrow}
use Rattle.text_formats.proofs.reading.has_arrow.Given as goal

abbrev pub invariant-loop-at : goal.invariant-loop-at
invariant-loop-at l = has_arrow (drop l.at l.line) ≡ has_arrow l.line
