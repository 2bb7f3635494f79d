-- The names of the first files' journals follow the earlier names.
use Rattle.std.proofs.Common.{◌≡◌, ◌++◌, map, take}
use Rattle.sidecar_edit.specs.Name.{sidecar_of}
use Rattle.input_files.specs.TimesFile.{times_names}
use Rattle.mkv_merge.proofs.names.add_times_sidecars.Given as goal

abbrev pub invariant-loop-each : goal.invariant-loop-each
invariant-loop-each l = l.names ≡ l.initial.names ++ map sidecar_of (times_names (take l.each-index l.times))
