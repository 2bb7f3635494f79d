-- The size of blocks in bytes, for cuts by size: RFC 9559, section 5.1.3 (Cluster).
use Rattle.std.specs.Prelude.{ℕ, nat_le, Bool, false, List, Option, Some, None}
use Rattle.std.specs.List.{sum_by}
use Rattle.output_model.specs.OutputBlock.{OutputBlock}
use Rattle.cluster_writer.specs.Lengths.{octets_taken}

-- the load of blocks: the number of bytes of their SimpleBlocks and BlockGroups. Used by the clauses of `part_size`, for the cuts of `merge --split
-- size:`.
abbrev pub load : List OutputBlock → ℕ
load blocks = sum_by octets_taken blocks

-- A section with a load of `octets` bytes has reached the size that ends a part, if there is one. For cuts by size: then the next keyframe that
-- allows a cut begins a new part. Used by `cuts_at` and `is_over_at`.
abbrev pub is_full : Option ℕ → ℕ → Bool
is_full None octets = false
is_full (Some limit) octets = nat_le limit octets
