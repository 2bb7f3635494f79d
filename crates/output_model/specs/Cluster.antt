-- The Clusters of an output: RFC 9559, section 5.1.3 (Cluster Element). The end of a Cluster is this project's choice.
use Rattle.std.specs.Prelude.{ℕ, ◌+◌, ◌-◌, ◌*◌, nat_le, Bool, ◌&&◌, if◌then◌else◌, List, [], ◌∷◌, ◌++◌, length, map}
use Rattle.mkv_schema.specs.declared.ids.TheConstants.{CLUSTER, TIMESTAMP}
use Rattle.output_model.specs.Element.{Element, element, uint_element, joined}
use Rattle.output_model.specs.declared.TheConstants.{MAX_CLUSTER_LEN}
use Rattle.output_model.specs.declared.heads.ClusterLimits.{ClusterLimits}
use Rattle.output_model.specs.OutputBlock.{OutputBlock}
use Rattle.output_model.specs.Block.{block_element}

-- a Cluster of an output: its Timestamp in ticks, which the times of its blocks count from, and its blocks in the order of writing. Used by
-- `cluster_elements`, `cluster_body` and others.
pub record OutputCluster : Type 0 where
  pub timestamp : ℕ
  pub blocks : List OutputBlock

-- ---- its bytes

-- the Timestamp Element of a Cluster, with the value `timestamp` in ticks. Used by `cluster_elements`, `cluster_points` and others.
abbrev pub timestamp_element : ℕ → Element
timestamp_element timestamp = uint_element TIMESTAMP timestamp

-- the Elements for the blocks `blocks` of a Cluster with the Timestamp `timestamp` in ticks. Used by `cluster_elements` and others.
abbrev pub block_elements : ℕ → List OutputBlock → List Element
block_elements timestamp blocks = map (block_element timestamp) blocks

-- the children of the Cluster `c` of an output: its Timestamp, then its blocks; for `cluster_body`
abbrev pub cluster_elements : OutputCluster → List Element
cluster_elements c = timestamp_element c.timestamp ∷ block_elements c.timestamp c.blocks

-- the content of the Cluster `c`: the bytes of its Timestamp and its blocks; for `cluster_element` and `joins`
abbrev pub cluster_body : OutputCluster → List ℕ
cluster_body c = joined (cluster_elements c)

-- the Cluster `c` as an Element with a known size, as an output has it. Used by `points_from`, `clusters_elements` and others.
abbrev pub cluster_element : OutputCluster → Element
cluster_element c = element CLUSTER (cluster_body c)

-- ---- blocks divided into Clusters

-- the Cluster that begins with the block `b`, whose tick is its Timestamp. The division of an output's blocks into Clusters uses it. Used by
-- `cut_from` and `clusters`.
abbrev pub begun : OutputBlock → OutputCluster
begun b = record { timestamp = b.tick; blocks = b ∷ [] }

-- the Cluster `c` with the block `b` after its own blocks; the division of an output's blocks into Clusters uses it. Used by `joins` and `cut_from`.
abbrev pub with_block : OutputCluster → OutputBlock → OutputCluster
with_block c b = record { timestamp = c.timestamp; blocks = c.blocks ++ b ∷ [] }

-- A Cluster may have `blocks` blocks by the limits `limits` of its output. It is the first of the four tests of `may_have`.
abbrev pub has_room_for : ClusterLimits → ℕ → Bool
has_room_for limits blocks = nat_le blocks limits.blocks

-- The difference between a Cluster's Timestamp `timestamp` and the tick `tick` of a block fits in 16 bits with a sign, as the header of a Block
-- needs. Used by `may_have`.
abbrev pub is_near : ℕ → ℕ → Bool
is_near timestamp tick = nat_le timestamp (tick + 32768) && nat_le tick (timestamp + 32767)

-- A block at `tick` isn't later after `timestamp`, the Timestamp of its Cluster, than the `limits` of the output allow. Both are in ticks. A block
-- before the Timestamp never is. Used by `may_have`.
abbrev pub keeps_span : ClusterLimits → ℕ → ℕ → Bool
keeps_span limits timestamp tick = nat_le ((tick - timestamp) * limits.scale) limits.span

-- A Cluster with more than one block may have a content of `octets` bytes. It is the last of the four tests of `may_have`.
abbrev pub keeps_size : ℕ → Bool
keeps_size octets = nat_le octets MAX_CLUSTER_LEN

-- A Cluster with the Timestamp `timestamp` may have `blocks` blocks, the last of them at the tick `tick`, and a content of `octets` bytes. The writer
-- of Clusters tests so whether a block fits in its Cluster; `limits` are the output's. Used by `joins`.
abbrev pub may_have : ClusterLimits → ℕ → ℕ → ℕ → ℕ → Bool
may_have limits timestamp blocks tick octets =
    has_room_for limits blocks && is_near timestamp tick && keeps_span limits timestamp tick && keeps_size octets

-- The block `b` may join the Cluster `c` of an output, which stays within `limits`; otherwise a new Cluster begins with it. Used by `cut_from`.
abbrev pub joins : ClusterLimits → OutputCluster → OutputBlock → Bool
joins limits c b = may_have limits c.timestamp (length (with_block c b).blocks) b.tick (length (cluster_body (with_block c b)))

-- the Clusters of an output that has the Cluster `c` and then the given blocks. Each block joins the last Cluster if it may by `limits`, and
-- otherwise begins a new one. Used by `clusters`.
abbrev pub cut_from : ClusterLimits → OutputCluster → List OutputBlock → List OutputCluster
cut_from limits c [] = c ∷ []
cut_from limits c (b ∷ bs) = if joins limits c b then cut_from limits (with_block c b) bs else c ∷ cut_from limits (begun b) bs

-- the Clusters that the given blocks of an output are divided into by `limits`; the first block always begins one. Used by `document_of`.
abbrev pub clusters : ClusterLimits → List OutputBlock → List OutputCluster
clusters limits [] = []
clusters limits (b ∷ bs) = cut_from limits (begun b) bs
