-- The units before the remaining ones were written, and only to the outputs.
use Rattle.std.proofs.Common.{◌≡◌, [], length, true, is_some, unwrap_or}
use Rattle.elementary.specs.Units.{units_of}
use Rattle.elementary.specs.Avc.{annex_b}
use Rattle.mkv_outputs.specs.Sinks.{WritesOutputs}
use Rattle.extractors.proofs.FramesLemmas.{GivesUpTo}
use Rattle.extractors.proofs.frames.give_units.Given as goal

abbrev pub invariant-loop-unit : goal.invariant-loop-unit
invariant-loop-unit g l = record {
  so : GivesUpTo g.F.Files l.initial.files l.files l.initial.outputs l.outputs l.k (unwrap_or (annex_b l.length_size l.frame) []) (unwrap_or (annex_b l.length_size l.rest) []);
  join : is_some (units_of l.length_size l.rest) ≡ true;
  count : length l.outputs ≡ length l.initial.outputs;
  wrote : WritesOutputs g.F.Reads g.F.Files l.initial.files l.files l.initial.outputs l.outputs;
  writing : g.F.Files.writing_faults l.files ≡ g.F.Files.writing_faults l.initial.files;
}

abbrev pub decreases-loop-unit : goal.decreases-loop-unit
decreases-loop-unit g l = length l.rest
