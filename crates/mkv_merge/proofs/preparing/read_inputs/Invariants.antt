-- The first inputs are read, and the others follow.
use Rattle.std.proofs.Common.{◌≡◌, ◌+◌, ◌*◌, ◌≤◌, List, ℕ, map, take}
use Rattle.std.specs.List.{All}
use Rattle.mkv_io.specs.Sources.{live_files}
use Rattle.merge_inputs.specs.Input.{IsInput}
use Rattle.merge_inputs.specs.declared.input.Input.{Input}
use Rattle.merge_plan.specs.TakenTracks.{HasPlace}
use Rattle.mkv_merge.specs.Bound.{files_size}
use Rattle.mkv_merge.specs.Prepared.{AreTold, AreUnmoved, reads_in}
use Rattle.mkv_merge.proofs.PreparingLemmas.{GoesOn}
use Rattle.mkv_merge.proofs.preparing.read_inputs.Given as goal

abbrev pub invariant-loop-input : goal.invariant-loop-input
invariant-loop-input g l = record {
  good : All (IsInput (live_files g.R.Reads l.initial.src)) l.inputs;
  of : map (λ (i : Input). i.file) l.inputs ≡ take l.input l.files;
  unmoved : AreUnmoved (take l.input l.words.files) l.inputs;
  places : All HasPlace l.inputs;
  goes_on : (contents : List (List ℕ)) → AreTold (live_files g.R.Reads l.initial.src) l.files contents → GoesOn l.words contents l.input l.held (reads_in l.inputs);
  standing : g.R.Reads.standing l.src ≡ g.R.Reads.standing l.initial.src;
  faults : g.R.Reads.reading_faults l.src ≡ g.R.Reads.reading_faults l.initial.src;
  octets : g.R.Reads.octets_read l.src ≤ g.R.Reads.octets_read l.initial.src + 25 * files_size (live_files g.R.Reads l.initial.src) (take l.input l.files);
}
