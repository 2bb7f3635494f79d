-- The bytes of a file that a window holds, and how it moves.
use Rattle.std.specs.Prelude.{◌≡◌, ℕ, ◌+◌, ◌*◌, ◌-◌, ◌≤◌, min, max, nat_lt, ◌||◌, List, [], length, drop, if◌then◌else◌}
use Rattle.mkv_io.specs.Contents.{octets_from}
use Rattle.mkv_schema.specs.declared.limits.TheConstants.{MAX_ELEMENT_HEADER_LEN}
use Rattle.elements.specs.declared.TheConstants.{LITTLE}

-- A window over a file: bytes of it, and the offset of the first one. Contracts on walks over Elements use it. Used by `held_in`, `ReadsOn` and
-- others.
pub record ReadAhead : Type 0 where
  pub at : ℕ
  pub octets : List ℕ

-- the empty window at the offset `at`. For contracts of calls that empty or fail to fill a window.
abbrev pub nothing_at : ℕ → ReadAhead
nothing_at at = record { at = at; octets = [] }

-- The window `w` holds nothing, and is at an offset between `from` and `end`. The contracts of walks state it after a failed read.
pub record IsEmptyWithin (from end : ℕ) (w : ReadAhead) : Type 0 where
  pub nothing : w.octets ≡ []
  pub after : from ≤ w.at
  pub before : w.at ≤ end

-- the offset in the file after the last byte that the window `w` holds. For `HasRange` and for bounds on bytes read.
abbrev pub end_ahead : ReadAhead → ℕ
end_ahead w = w.at + length w.octets

-- The bytes of the window `w` are the bytes of the content `bytes` at the window's offset. An invariant of all calls on a window.
abbrev pub Holds : List ℕ → ReadAhead → Type 0
Holds bytes w = w.octets ≡ octets_from bytes w.at (length w.octets)

-- The window `w` holds the `len` bytes from the offset `at` on. The condition of calls that return held bytes.
pub record HasRange (w : ReadAhead) (at len : ℕ) : Type 0 where
  pub from : w.at ≤ at
  pub to : at + len ≤ end_ahead w

-- the greatest length in bytes of a header at the offset `at`, in a parent that ends at the offset `end`. The contract of the function of the same
-- name states it; this number of bytes is looked up for a header.
abbrev pub header_room : ℕ → ℕ → ℕ
header_room at end = min (end - at) MAX_ELEMENT_HEADER_LEN

-- the number of bytes that the window `w` of `room` bytes should hold from the offset `at` on if `len` are requested. It is twice the number that it
-- held, but at least 1,024 more than `len`. After a jump over more than it held it is only 1,024 more than `len`. Such a jump skips the data of a
-- block or a Cluster, and perhaps a single header is looked up after it. For `LooksAt`, as a bound on the bytes that a reader reads.
abbrev pub wanted_at : ℕ → ReadAhead → ℕ → ℕ → ℕ
wanted_at room w at len = min room (if nat_lt (end_ahead w + length w.octets) at then len + LITTLE else max (len + LITTLE) (2 * length w.octets))

-- the number of bytes that a window holds from the offset `at` of a file of `size` bytes on if it should hold `wanted`. For `ReadsOn`, as a bound on
-- the bytes that a reader reads.
abbrev pub held_from : ℕ → ℕ → ℕ → ℕ
held_from wanted size at = min wanted (size - at)

-- the bytes that the window `w` holds from the offset `at` on. The contract of `front_at` states it.
abbrev pub front_from : ReadAhead → ℕ → List ℕ
front_from w at = if nat_lt at w.at then [] else drop (at - w.at) w.octets

-- the bytes that the window `w` keeps if it moves to the offset `at` of a file of `size` bytes. For `ReadsOn`, as a bound on the bytes that a reader
-- reads.
abbrev pub kept_from : ReadAhead → ℕ → ℕ → List ℕ
kept_from w size at = if nat_lt at w.at || nat_lt size (end_ahead w) then [] else drop (at - w.at) w.octets

-- The window `w` begins at the offset `at` or before, and ends in a file of `size` bytes. A condition of `Goes`, as a bound on the bytes that a
-- reader reads.
pub record HasNotPassed (w : ReadAhead) (at size : ℕ) : Type 0 where
  pub from : w.at ≤ at
  pub within : end_ahead w ≤ size

-- The window `old` became `new`, and no byte was read twice. The count of bytes read rose from `before` to `now` by at most the growth of the
-- window's end. For `MovesTo`, as a bound on the bytes that a reader reads.
abbrev pub Pays : ReadAhead → ReadAhead → ℕ → ℕ → Type 0
Pays old new before now = now + end_ahead old ≤ before + end_ahead new

-- The count of bytes read rose from `before` to `now`. It rose by at most the bytes from the end of the window `old` to the end of a file of `size`
-- bytes. The failure of `Goes`.
abbrev pub Spends : ℕ → ReadAhead → ℕ → ℕ → Type 0
Spends size old before now = now + end_ahead old ≤ before + size

-- The window `old` became `new`, which hasn't passed the offset `at` of a file of `size` bytes. No byte was read twice, by the counts `before` and
-- `now`. The success of `Goes`.
pub record MovesTo (size at : ℕ) (old new : ReadAhead) (before now : ℕ) : Type 0 where
  pub place : HasNotPassed new at size
  pub pays : Pays old new before now
