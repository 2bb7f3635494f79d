-- The files found and the rest make the whole.
use Rattle.std.proofs.Common.{◌≡◌, ◌++◌, drop}
use Rattle.input_files.specs.TimesFile.{named_from}
use Rattle.input_files.proofs.times_file.times_named.Given as goal

abbrev pub invariant-loop-input : goal.invariant-loop-input
invariant-loop-input l = l.named ++ named_from l.input (drop l.input l.words) ≡ named_from 0 l.words
