-- The observable state of a report in memory, and the effects of a call on it.
use Rattle.std.specs.Prelude.{◌≡◌, ℕ, ◌-◌, Bool, true, false, ◌||◌, ◌==◌, nat_lt, List, [], ◌∷◌, ◌++◌, length, Result, Ok, Err}
use Rattle.mkv_io.specs.declared.outside.Failed.{Failed}
use Rattle.mkv_io.specs.Faults.{counted}

-- the observable state of a report in memory. It has the lines up to now, the room for more lines and bytes, the calls that must fail, and the
-- counts. Calls are counted from 0. The contracts of `MemReport` are about it. Used by `seen`, `no_lines` and others.
pub record SeenReport : Type 0 where
  pub lines : List (List ℕ)
  pub lines_left : ℕ
  pub octets_left : ℕ
  pub is_to_fail : ℕ → Bool
  pub calls : ℕ
  pub faults : ℕ

-- a report without lines, with room for `lines` lines and `octets` bytes, and without a call that must fail. The contract of `MemReport::new` has it.
abbrev pub no_lines : ℕ → ℕ → SeenReport
no_lines lines octets = record {
  lines = [];
  lines_left = lines;
  octets_left = octets;
  is_to_fail = λ _. false;
  calls = 0;
  faults = 0;
}

-- the report `old` with the call number `call`, counted from 0, set to fail. The contract of `MemReport::fail_at` has it.
abbrev pub with_failure : SeenReport → ℕ → SeenReport
with_failure old call = record old { is_to_fail = λ other. (other == call) || old.is_to_fail other }

-- the report `old` after one more call. `SaysLine` uses it.
abbrev pub called : SeenReport → SeenReport
called old = record old { calls = counted old.calls 1 }

-- the report `old` with the line `line` after its own, which uses room. `SaysLine` uses it.
abbrev pub with_line : SeenReport → List ℕ → SeenReport
with_line old line = record old {
  lines = old.lines ++ line ∷ [];
  lines_left = old.lines_left - 1;
  octets_left = old.octets_left - length line;
}

-- The next call can't add `line` to the report `old`: it must fail, or the room for lines or bytes is used up. `SaysLine` uses it.
abbrev pub cannot_say : SeenReport → List ℕ → Bool
cannot_say old line = old.is_to_fail old.calls || (old.lines_left == 0) || nat_lt old.octets_left (length line)

-- Adding `line` changed the report from `old` to `new`. It fails if and only if the line can't be added, and then uses no room. Otherwise it is
-- appended. The contract of `MemReport::say` has it.
abbrev pub SaysLine : {T : Type 0} → SeenReport → List ℕ → Result T Failed → SeenReport → Type 0
SaysLine old line (Ok _) new = (cannot_say old line ≡ false) × (new ≡ with_line (called old) line)
SaysLine old line (Err _) new =
    (cannot_say old line ≡ true) × (new ≡ record (called old) { faults = counted old.faults 1 })
