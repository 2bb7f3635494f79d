-- The names of the first files follow the earlier names.
use Rattle.std.proofs.Common.{◌≡◌, ◌++◌, take}
use Rattle.input_files.specs.Inputs.{file_names}
use Rattle.mkv_merge.proofs.opening.add_names.Given as goal

abbrev pub invariant-loop-file : goal.invariant-loop-file
invariant-loop-file l = l.names ≡ l.initial.names ++ file_names (take l.file-index l.files)
