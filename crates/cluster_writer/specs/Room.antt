-- Bytes that are appended within the capacity of a buffer.
use Rattle.std.specs.Prelude.{◌≡◌, ℕ, ◌+◌, ◌≤◌, List, ◌++◌, length, vec_len}
use Rattle.std.specs.Vec.{vec_capacity}
use Rattle.std.specs.declared.alloc.Global.{Global}
use Rattle.std.specs.declared.vec.Vec.{Vec}

-- The vector `v` has free capacity for `n` more bytes. A condition of all functions that append to a buffer without allocating. Used by
-- `add_headers`, `add_block_element` and others.
abbrev pub HasRoom : Vec ℕ Global → ℕ → Type 0
HasRoom v n = vec_len v + n ≤ vec_capacity v

-- The vector `new` is `old` with `octets` appended, and at least the same capacity. The functions that append to a buffer without allocating state
-- it.
pub record Adds (old new : Vec ℕ Global) (octets : List ℕ) : Type 0 where
  pub items : new.items ≡ old.items ++ octets
  pub len : vec_len new ≡ vec_len old + length octets
  pub capacity : vec_capacity old ≤ vec_capacity new
