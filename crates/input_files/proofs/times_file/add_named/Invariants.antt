-- The previous files were appended.
use Rattle.std.proofs.Common.{◌≡◌, ◌++◌, map, take}
use Rattle.input_files.specs.TimesFile.{named_of}
use Rattle.input_files.proofs.times_file.add_named.Given as goal

abbrev pub invariant-loop-id : goal.invariant-loop-id
invariant-loop-id l = l.named ≡ l.initial.named ++ map (named_of l.input) (take l.id-index l.times)
