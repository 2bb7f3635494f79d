-- The segments before the remaining ones were written, and only to the outputs.
use Rattle.std.proofs.Common.{◌≡◌, length, true, is_some}
use Rattle.elementary.specs.Pgs.{segments_of}
use Rattle.mkv_outputs.specs.Sinks.{WritesOutputs}
use Rattle.extractors.specs.Walks.{segmented}
use Rattle.extractors.proofs.FramesLemmas.{GivesUpTo}
use Rattle.extractors.proofs.frames.give_segments.Given as goal

abbrev pub invariant-loop-segment : goal.invariant-loop-segment
invariant-loop-segment g l = record {
  so : GivesUpTo g.F.Files l.initial.files l.files l.initial.outputs l.outputs l.k (segmented l.header l.frame) (segmented l.header l.rest);
  join : is_some (segments_of l.rest) ≡ true;
  count : length l.outputs ≡ length l.initial.outputs;
  wrote : WritesOutputs g.F.Reads g.F.Files l.initial.files l.files l.initial.outputs l.outputs;
  writing : g.F.Files.writing_faults l.files ≡ g.F.Files.writing_faults l.initial.files;
}

abbrev pub decreases-loop-segment : goal.decreases-loop-segment
decreases-loop-segment g l = length l.rest
