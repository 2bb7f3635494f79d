-- The order of a merged list, and the places at which it is cut into Clusters, both for whole lists.
use Rattle.std.specs.Prelude.{◌≡◌, ◌<◌, ◌⊎◌, ⊤, ℕ, max, true, false, List, [], ◌∷◌, ◌++◌, length}
use Rattle.output_model.specs.declared.heads.ClusterLimits.{ClusterLimits}
use Rattle.output_model.specs.OutputBlock.{OutputBlock}
use Rattle.output_model.specs.Cluster.{OutputCluster, joins}
use Rattle.output_model.specs.Sound.{BeginsAt}
use Rattle.output_laws.specs.Lanes.{lane_of}

-- ---- the order of blocks

-- the greatest tick of the blocks, or 0 without blocks. Used for the order number of a block (`rank`).
abbrev pub greatest_tick : List OutputBlock → ℕ
greatest_tick [] = 0
greatest_tick (b ∷ bs) = max b.tick (greatest_tick bs)

-- rank that orders the blocks of a merged list: the order number of a block in ticks, its output track, and its place. Tracks count from 1, and
-- places on a track from 0. For the law `merged_is_in_order`.
pub record Rank : Type 0 where
  pub order : ℕ
  pub lane : ℕ
  pub place : ℕ

-- the rank of the block `b` after the blocks `before` of a merged list. Its order number is the greatest tick of its output track up to it. Its place
-- is the number of earlier blocks on the track. Ticks and numbers are as in `Rank`. For `IsInOrder`.
abbrev pub rank : List OutputBlock → OutputBlock → Rank
rank before b = record {
  order = max (greatest_tick (lane_of b.lane before)) b.tick;
  lane = b.lane;
  place = length (lane_of b.lane before);
}

-- The rank `r` is before the rank `s` by the order number, or else by the output track, or else by the place. Used by `IsInOrder`, in the laws on
-- what `merge` writes.
abbrev pub IsBefore : Rank → Rank → Type 0
IsBefore r s =
    (r.order < s.order) ⊎ ((r.order ≡ s.order) × ((r.lane < s.lane) ⊎ ((r.lane ≡ s.lane) × (r.place < s.place))))

-- For any two blocks of the list `bs`, the rank of the first one is before the rank of the other. The law `merged_is_in_order` states it of the list
-- that `merge` writes.
abbrev pub IsInOrder : List OutputBlock → Type 0
IsInOrder bs =
    (before between behind : List OutputBlock) (b c : OutputBlock)
    → bs ≡ before ++ b ∷ (between ++ c ∷ behind)
    → IsBefore (rank before b) (rank (before ++ b ∷ between) c)

-- ---- ends of Clusters

-- The Cluster `c` has the tick of its first block as Timestamp, and each further block may join the earlier ones within `limits`. Used by
-- `AreCutWhole`, in the laws on what `merge` writes.
pub record IsJoined (limits : ClusterLimits) (c : OutputCluster) : Type 0 where
  pub begins : BeginsAt c.timestamp c.blocks
  pub joined : (first b : OutputBlock) (before behind : List OutputBlock)
      → c.blocks ≡ first ∷ (before ++ b ∷ behind)
      → joins limits (record { timestamp = c.timestamp; blocks = first ∷ before }) b ≡ true

-- The first block of the Cluster `d`, which follows the Cluster `c`, may not join the Cluster `c` within `limits`. Used by `AreCutWhole`, in the laws
-- on what `merge` writes.
abbrev pub EndsBefore : ClusterLimits → OutputCluster → OutputCluster → Type 0
EndsBefore limits c d =
    (first : OutputBlock) (others : List OutputBlock)
    → d.blocks ≡ first ∷ others → joins limits c first ≡ false

-- In the list of Clusters, each ends if and only if the next block may not join it within `limits`. The law `clusters_are_cut` states it of the
-- Clusters that `merge` writes.
abbrev pub AreCutWhole : ClusterLimits → List OutputCluster → Type 0
AreCutWhole limits [] = ⊤
AreCutWhole limits (c ∷ []) = IsJoined limits c
AreCutWhole limits (c ∷ (d ∷ ds)) = IsJoined limits c × EndsBefore limits c d × AreCutWhole limits (d ∷ ds)
