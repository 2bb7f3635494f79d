-- The times before the remaining ones were written, and only to the outputs.
use Rattle.std.proofs.Common.{◌≡◌, ◌-◌, length}
use Rattle.mkv_outputs.specs.Sinks.{WritesOutputs}
use Rattle.extractors.proofs.FramesLemmas.{GivesUpTo, times_left}
use Rattle.extractors.proofs.frames.give_times.Given as goal

abbrev pub invariant-loop-i : goal.invariant-loop-i
invariant-loop-i g l = record {
  so : GivesUpTo g.F.Files l.initial.files l.files l.initial.outputs l.outputs l.k (times_left l.output.step l.head.time 0 (l.frames - 0)) (times_left l.output.step l.head.time l.i (l.frames - l.i));
  count : length l.outputs ≡ length l.initial.outputs;
  wrote : WritesOutputs g.F.Reads g.F.Files l.initial.files l.files l.initial.outputs l.outputs;
  writing : g.F.Files.writing_faults l.files ≡ g.F.Files.writing_faults l.initial.files;
}
