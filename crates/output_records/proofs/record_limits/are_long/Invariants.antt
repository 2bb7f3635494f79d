-- The rest of the limit and the bytes of the previous children are constant together.
use Rattle.std.proofs.Common.{◌≡◌, ◌+◌, length, flat_map, drop}
use Rattle.mkv_schema.specs.declared.limits.TheConstants.{MAX_MASTER_LEN}
use Rattle.tree_format.specs.NormalForm.{octets}
use Rattle.output_records.proofs.record_limits.are_long.Given as goal

abbrev pub invariant-loop-child : goal.invariant-loop-child
invariant-loop-child l = l.left + length (flat_map octets l.children) ≡ MAX_MASTER_LEN + length (flat_map octets (drop l.child-index l.children))
