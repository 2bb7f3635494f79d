-- The first chunks were copied.
use Rattle.std.proofs.Common.{◌≤◌, ◌-◌}
use Rattle.mkv_io.specs.Sources.{live_files}
use Rattle.output_model.specs.Attached.{octets_told}
use Rattle.cues_seekhead.specs.Appending.{AppendsOnly}
use Rattle.cues_seekhead.proofs.AppendingLemmas.{no_refusal}
use Rattle.cues_seekhead.proofs.copying.copy_data.Given as goal

abbrev pub invariant-loop-done : goal.invariant-loop-done
invariant-loop-done g l = record {
  copied : AppendsOnly g.F.Reads g.F.Files l.to (octets_told ((live_files g.F.Reads l.fn.files).content l.from.n) l.at l.done) l.done l.fn.files l.files no_refusal;
  within : l.done ≤ l.len;
}

abbrev pub decreases-loop-done : goal.decreases-loop-done
decreases-loop-done g l = l.len - l.done
