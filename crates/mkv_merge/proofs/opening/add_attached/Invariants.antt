-- The names of the first files follow the earlier names.
use Rattle.std.proofs.Common.{◌≡◌, ◌++◌, take}
use Rattle.input_files.specs.Inputs.{attached_names}
use Rattle.mkv_merge.proofs.opening.add_attached.Given as goal

abbrev pub invariant-loop-each : goal.invariant-loop-each
invariant-loop-each l = l.names ≡ l.initial.names ++ attached_names (take l.each-index l.attached)
