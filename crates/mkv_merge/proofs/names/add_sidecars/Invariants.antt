-- The names of the first files' journals follow the earlier names.
use Rattle.std.proofs.Common.{◌≡◌, ◌++◌, map, take}
use Rattle.sidecar_edit.specs.Name.{sidecar_of}
use Rattle.input_files.specs.Inputs.{file_names}
use Rattle.mkv_merge.proofs.names.add_sidecars.Given as goal

abbrev pub invariant-loop-file : goal.invariant-loop-file
invariant-loop-file l = l.names ≡ l.initial.names ++ map sidecar_of (file_names (take l.file-index l.files))
