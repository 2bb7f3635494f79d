-- The names of the first files follow the earlier names.
use Rattle.std.proofs.Common.{◌≡◌, ◌++◌, take}
use Rattle.input_files.specs.TimesFile.{times_names}
use Rattle.mkv_merge.proofs.names.add_times.Given as goal

abbrev pub invariant-loop-each : goal.invariant-loop-each
invariant-loop-each l = l.names ≡ l.initial.names ++ times_names (take l.each-index l.times)
