-- The limits on the bytes that `propedit` and `recover` read of a file and its journal. They are this project's.
use Rattle.std.specs.Prelude.{ℕ, ◌+◌, ◌*◌}
use Rattle.sidecar_edit.specs.declared.place.TheConstants.{HEAD, KEPT, MAX_OCTETS}

-- the limit in bytes for planning edits of a file of `octets` bytes: 25 times the file, and its first KEPT bytes, which the journal has. `propedit`
-- reads no more.
abbrev pub most_to_plan : ℕ → ℕ
most_to_plan octets = 25 * octets + KEPT

-- the limit in bytes for editing a file of `octets` bytes in place: that for planning, and the head of its journal. The contract of `propedit` has
-- it.
abbrev pub most_to_edit : ℕ → ℕ
most_to_edit octets = HEAD + most_to_plan octets

-- the limit in bytes for recovering a file of any length: the head of its journal, its first KEPT bytes, and the bytes to write. The contract of
-- `recover` has it.
abbrev pub most_to_recover : ℕ
most_to_recover = HEAD + KEPT + MAX_OCTETS
