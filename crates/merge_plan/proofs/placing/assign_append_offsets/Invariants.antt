-- The first inputs are placed.
use Rattle.std.proofs.Common.{◌≡◌, ◌+◌, ◌*◌, ◌≤◌}
use Rattle.mkv_io.specs.Sources.{live_files}
use Rattle.merge_plan.specs.Behind.{size_behind}
use Rattle.merge_plan.specs.Placed.{walked_behind, walked_length}
use Rattle.merge_plan.proofs.PlaceLemmas.{GoesOn}
use Rattle.merge_plan.proofs.placing.assign_append_offsets.Given as goal

abbrev pub invariant-loop-input : goal.invariant-loop-input
invariant-loop-input g l = record {
  goes : GoesOn (live_files g.R.Reads l.initial.src) l.initial.input-iterator.rest.items l.placed l.input-iterator.rest.items;
  standing : g.R.Reads.standing l.src ≡ g.R.Reads.standing l.initial.src;
  faults : g.R.Reads.reading_faults l.src ≡ g.R.Reads.reading_faults l.initial.src;
  octets : g.R.Reads.octets_read l.src + 2 * walked_behind (live_files g.R.Reads l.initial.src) (size_behind (live_files g.R.Reads l.initial.src) l.placed) l.input-iterator.rest.items
      ≤ g.R.Reads.octets_read l.initial.src + 2 * walked_length (live_files g.R.Reads l.initial.src) l.initial.input-iterator.rest.items;
}
