-- Places among the elements of a Segment, and the moves of a walk over them.
use Rattle.std.specs.Prelude.{◌≡◌, ◌≤◌, ⊤, ℕ, ◌+◌, ◌*◌, ◌-◌, true, false, if◌then◌else◌, Option, Some, None}
use Rattle.mkv_schema.specs.declared.element.Header.{Header}
use Rattle.mkv_schema.specs.Element.{end_in, is_unknown}
use Rattle.block_format.specs.Events.{is_closed}
use Rattle.cluster_reader.specs.declared.place.Place.{Place}
use Rattle.cluster_reader.specs.declared.place.OpenCluster.{OpenCluster}

-- the greatest offset that the Segment or Cluster with the header `h` may reach in a parent that ends at the offset `e`; for `first_place` and
-- `cluster_in`
abbrev pub bound_in : ℕ → Header → ℕ
bound_in e h = if is_unknown h.size then e else end_in e h

-- the place of the first Element in `segment`, in a file of `total` bytes, where a cursor starts. Used by `first` and `Begins`.
abbrev pub first_place : Header → ℕ → Place
first_place segment total = record {
  size = segment.size;
  at = segment.body;
  end = bound_in total segment;
  cluster = None;
}

-- the Cluster with the header `h` at its first child, when a walk enters it, in a file of `total` bytes and a Segment that ends at the offset `e`;
-- for the contract of `entered`
abbrev pub cluster_in : ℕ → ℕ → Header → OpenCluster
cluster_in total e h = record {
  end = bound_in e h;
  closed = is_closed total h;
  unknown = is_unknown h.size;
  timestamp = None;
}

-- the place of a walk after damage in the Cluster `c`, given the place `p` in it: after the Cluster if it is closed, and otherwise at the end of the
-- Segment; for `broken_off`
abbrev pub behind_damage : Place → OpenCluster → Place
behind_damage p c = record p { at = if c.closed then c.end else p.end; cluster = None }

-- ---- valid places

-- The offset `p` of a walk is at most the end of the Cluster `c`, which is within the Segment that ends at the offset `e`. A closed Cluster has a
-- known size. Used by `IsInAny`.
pub record IsInCluster (p e : ℕ) (c : OpenCluster) : Type 0 where
  pub here : p ≤ c.end
  pub within : c.end ≤ e
  pub closed : c.closed ≡ true → c.unknown ≡ false

-- The offset `p` of a walk is within the given Cluster as `IsInCluster` requires, if there is one. The Segment ends at the offset `e`.
abbrev pub IsInAny : ℕ → ℕ → Option OpenCluster → Type 0
IsInAny p e None = ⊤
IsInAny p e (Some c) = IsInCluster p e c

-- The place `p` is within its Segment, and within its Cluster, if any, as the places of a cursor always are. Used by `IsReady`.
pub record IsPlace (p : Place) : Type 0 where
  pub within : p.at ≤ p.end
  pub cluster : IsInAny p.at p.end p.cluster

-- ---- number of turns that are left

-- the number of turns for leaving the given Cluster: 1, or 0 if there is none; for `turns_left`
abbrev pub turns_to_leave : Option OpenCluster → ℕ
turns_to_leave None = 0
turns_to_leave (Some c) = 1

-- an upper bound on the turns that a walk can make from the place `p` on; it falls with each turn, so a step ends. Used by `TurnsOn`.
abbrev pub turns_left : Place → ℕ
turns_left p = 2 * (p.end - p.at) + turns_to_leave p.cluster

-- the place at the end of the Segment of the place `p`, outside any Cluster, after damage that ends the reading; for `ended`
abbrev pub at_end : Place → Place
at_end p = record p { at = p.end; cluster = None }

-- the place of a walk after the child `child` of the Cluster `c`, given a place `p` in it. `timestamp` is the Cluster's Timestamp in ticks, if it was
-- read. Used by the contract of `passed`.
abbrev pub behind_child : Place → OpenCluster → Header → Option ℕ → Place
behind_child p c child timestamp = record p { at = end_in c.end child; cluster = Some (record c { timestamp = timestamp }) }
