-- The journal's record of the writes of edits.
use Rattle.std.specs.Prelude.{◌≡◌, ℕ, List, map, flat_map, Result, Ok}
use Rattle.requests.specs.declared.edit.Edit.{Edit}
use Rattle.sidecar_edit.specs.Fields.{AreInOrder, Planned, last_end}
use Rattle.sidecar_edit.specs.Plan.{planned}
use Rattle.sidecar_edit.specs.Writes.{Write, extent}
use Rattle.edit_changes.specs.declared.refusal.Refusal.{Refusal}
use Rattle.mkv_io.specs.Results.{and_then}
use Rattle.edit_changes.specs.Plan.{place, plan_of, recorded}
use Rattle.sidecar_edit.specs.declared.place.Place.{Place}

-- the journal's record of the writes `ws` over a file of `old_len` bytes that begins with `first`. The contract of `recorded` promises it.
abbrev pub record_over : ℕ → List ℕ → List Write → Planned
record_over old_len first ws = planned old_len (extent old_len ws) first (map place ws) (flat_map (λ (w : Write). w.bytes) ws)

-- the journal's record of the writes of `edits` to a file with the content `bytes`, or the first refusal. The contract of `plan` promises it for
-- `propedit`.
abbrev pub record_of : List ℕ → List Edit → Result Planned Refusal
record_of bytes edits = and_then (plan_of bytes edits) (λ ws. Ok (recorded bytes ws))

-- The places `places` are in ascending order from the offset `from` on, in a file of `old_len` bytes. `end` is the offset after the last. The
-- contract of `end_behind` promises it.
abbrev pub EndsInOrder : ℕ → ℕ → List Place → ℕ → Type 0
EndsInOrder old_len from places end = AreInOrder old_len from places × (end ≡ last_end from places)
