use Rattle.std.proofs.Common.{◌≡◌, ◌++◌}
use Rattle.text_formats.specs.Reading.{breaks}
use Rattle.text_formats.proofs.reading.add_line.Given as goal

abbrev pub invariant-loop : goal.invariant-loop
invariant-loop l = l.text ≡ l.fn.text ++ breaks l.counter
