-- The bytes are the bytes of the writes passed and of the rest.
use Rattle.std.proofs.Common.{◌≡◌, ◌++◌, drop, map, flat_map}
use Rattle.sidecar_edit.specs.Writes.{Write}
use Rattle.edit_plan.specs.Shown.{written}
use Rattle.edit_plan.proofs.record.payload_of.Given as goal

abbrev pub invariant-loop-write : goal.invariant-loop-write
invariant-loop-write l =
    l.payload ++ flat_map (λ (w : Write). w.bytes) (map written (drop l.write-index l.writes))
    ≡ flat_map (λ (w : Write). w.bytes) (map written l.writes)
