-- The frames before the remaining ones were written, and only to the outputs.
use Rattle.std.proofs.Common.{◌≡◌, ◌≤◌, ◌+◌, drop, length, sum}
use Rattle.std.specs.List.{filter}
use Rattle.block_reader.specs.Buffered.{block_of}
use Rattle.mkv_outputs.specs.Sinks.{WritesOutputs}
use Rattle.extractors.specs.BadFrames.{is_bad}
use Rattle.extractors.proofs.BadFramesLemmas.{bad_left}
use Rattle.extractors.proofs.FramesLemmas.{GivesUpTo, entries_left}
use Rattle.extractors.proofs.frames.give_frames.Given as goal

abbrev pub invariant-loop-i : goal.invariant-loop-i
invariant-loop-i g l = record {
  so : GivesUpTo g.F.Files l.initial.files l.files l.initial.outputs l.outputs l.k (entries_left l.output l.number l.output.step l.head.time l.duration l.sizes l.body 0 0) (entries_left l.output l.number l.output.step l.head.time l.duration l.sizes l.body l.i l.at);
  rest : l.at + sum (drop l.i l.sizes) ≡ length l.body;
  bad : l.bad + bad_left l.output l.sizes l.body l.i l.at ≡ length (filter (is_bad l.output) (block_of l.cursor.block).frames);
  few : l.bad ≤ l.i;
  count : length l.outputs ≡ length l.initial.outputs;
  wrote : WritesOutputs g.F.Reads g.F.Files l.initial.files l.files l.initial.outputs l.outputs;
  writing : g.F.Files.writing_faults l.files ≡ g.F.Files.writing_faults l.initial.files;
}
