-- A plan as it is stored: the bytes of the record after the gate, with their fields.
use Rattle.std.specs.Prelude.{◌≡◌, ℕ, ◌-◌, List, drop}
use Rattle.sidecar_edit.specs.declared.place.Place.{Place}
use Rattle.sidecar_edit.specs.declared.place.TheConstants.{HEAD}
use Rattle.sidecar_edit.specs.Fields.{IsPlan, Planned, body_of}

-- the plan of an edit from `old_len` to `new_len` bytes of a file that begins with `first`: writes at `places`, of the bytes `payload` together; the
-- contract of `Plan::new`
abbrev pub planned : ℕ → ℕ → List ℕ → List Place → List ℕ → Planned
planned old_len new_len first places payload = record {
  head = record { old_len = old_len; new_len = new_len; first = first; places = places };
  payload = payload;
}

-- the plan of an edit, as the code keeps it, from `old_len` to `new_len` bytes of a file that begins with `first`, with writes at `places`. Its
-- record has the bytes `octets` after the gate.
abbrev pub planned_in : ℕ → ℕ → List ℕ → List Place → List ℕ → Planned
planned_in old_len new_len first places octets = planned old_len new_len first places (drop (HEAD - 1) octets)

-- The plan `p` is one of an edit, and `octets` are the bytes of its record after the gate. It is the invariant of `Plan`.
pub record IsRecorded (p : Planned) (octets : List ℕ) : Type 0 where
  pub plan : IsPlan p
  pub is : octets ≡ body_of p
