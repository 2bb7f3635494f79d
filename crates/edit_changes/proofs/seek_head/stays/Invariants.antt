-- The tree isn't a Seek of an ID that was passed.
use Rattle.std.proofs.Common.{◌≡◌, drop}
use Rattle.edit_changes.specs.SeekHead as spec
use Rattle.edit_changes.proofs.seek_head.stays.Given as goal

abbrev pub invariant-loop-id : goal.invariant-loop-id
invariant-loop-id l = spec.stays l.ids l.tree ≡ spec.stays (drop l.id-index l.ids) l.tree
