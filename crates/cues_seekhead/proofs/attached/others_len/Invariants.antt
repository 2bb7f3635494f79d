-- The sum and the rest make the whole.
use Rattle.std.proofs.Common.{◌≡◌, ◌≤◌, ◌+◌, length, flat_map, drop}
use Rattle.mkv_schema.specs.declared.ids.TheConstants.{FILE_DATA}
use Rattle.tree_format.specs.NormalForm.{octets, longest}
use Rattle.tree_format.specs.Changes.{without}
use Rattle.cues_seekhead.proofs.attached.others_len.Given as goal

abbrev pub invariant-loop-child : goal.invariant-loop-child
invariant-loop-child l = record {
  same : l.total + length (flat_map octets (without FILE_DATA (drop l.child-index l.children))) ≡ length (flat_map octets (without FILE_DATA l.children));
  few : l.total ≤ longest;
}
