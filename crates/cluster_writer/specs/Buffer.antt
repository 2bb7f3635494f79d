-- Invariants of the fields of the buffer for a Cluster.
use Rattle.std.specs.Prelude.{◌≡◌, ◌≤◌, ◌^◌, ⊤, ℕ, List, [], length, drop, Option, Some, None}
use Rattle.cluster_writer.specs.declared.front.TheConstants.{FRONT}
use Rattle.cluster_writer.specs.declared.buffer.ClusterBuf.TheInside.{Inside}
use Rattle.output_model.specs.Element.{octets_of}
use Rattle.output_model.specs.Cluster.{timestamp_element}
use Rattle.cluster_writer.specs.Gathered.{IsSmall}

-- A buffer without a Timestamp has no blocks: `count` is 0, and `elements`, their bytes, are none. A part of the buffer's invariant `IsFronted`.
abbrev pub IsEmptyAt : Option ℕ → ℕ → List ℕ → Type 0
IsEmptyAt None count elements = (count ≡ 0) × (elements ≡ [])
IsEmptyAt (Some timestamp) count elements = ⊤

-- `len` is the length in bytes of the Timestamp Element with the value in the first argument, if there is one. A part of the buffer's invariant
-- `IsFronted`.
abbrev pub IsTimestampLen : Option ℕ → ℕ → Type 0
IsTimestampLen None len = ⊤
IsTimestampLen (Some timestamp) len = (len ≡ length (octets_of (timestamp_element timestamp))) × (len ≤ 24)

-- Invariant of the buffer for a Cluster: `b` begins with `FRONT` reserved bytes for its header and Timestamp, and then has the blocks. The
-- Timestamp's length is known, and the Cluster is within its limits.
pub record IsFronted (b : Inside) : Type 0 where
  pub front : FRONT ≤ length b.octets.items
  pub timestamp : IsTimestampLen b.timestamp b.timestamp_len
  pub empty : IsEmptyAt b.timestamp b.count (drop FRONT b.octets.items)
  pub small : IsSmall b.timestamp b.count (drop FRONT b.octets.items)
  pub most : length b.octets.items ≤ 2 ^ 28
