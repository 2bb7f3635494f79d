-- The Elements at level 1 that an outline keeps while a file is read.
use Rattle.std.specs.Prelude.{◌≡◌, ℕ, ◌+◌, ◌≤◌, ◌==◌, not, false, if◌then◌else◌, List, [], ◌∷◌, ◌++◌, filter, Option, None}
use Rattle.std.specs.List.{last_or}
use Rattle.mkv_schema.specs.declared.ids.TheConstants.{CLUSTER}
use Rattle.mkv_schema.specs.declared.element.Header.{Header}
use Rattle.mkv_schema.specs.Element.{is_unknown, known, stated_end}
use Rattle.mkv_schema.specs.Value.{first_of}
use Rattle.mkv_schema.specs.Outline.{described, first_damage, is_described, limit_causes}
use Rattle.element_reader.specs.declared.collected.Collected.{Collected}
use Rattle.mkv_io.specs.declared.damage.Damage.{Damage}

-- the Elements in `list`, those at level 1 of a file, other than Clusters; an outline keeps them. Used by `shown`.
abbrev pub others_of : List Header → List Header
others_of list = filter (λ h. not (h.id == CLUSTER)) list

-- the Element `h` at level 1 as a list of one, or an empty list if it is a Cluster; for `AddsOther`
abbrev pub unless_cluster : Header → List Header
unless_cluster h = if not (h.id == CLUSTER) then h ∷ [] else []

-- the last Element in `list`, those at level 1 of a file, or None if it is empty; for `shown` and the contract of `last`
abbrev pub last_element : List Header → Option Header
last_element list = last_or None list

-- The data of the Element `h` can be read from a file of `total` bytes: its size is known, and it ends in the file. An outline promises it of all
-- Elements other than Clusters.
pub record IsInFile (total : ℕ) (h : Header) : Type 0 where
  pub known : is_unknown h.size ≡ false
  pub inside : stated_end h ≤ total

-- the length of the data of the Element `h` in bytes if it is an Info, Tracks, Chapters or Tags, or else 0; the limit on their sum counts it. Used by
-- the contracts of `refusal` and `passes_size`.
abbrev pub described_octets : Header → ℕ
described_octets h = if is_described h.id then known h.size else 0

-- The collection `kept` has what an outline keeps of the Elements at level 1 in `list`. Earlier inputs of a merge have `held` bytes of Info, Tracks,
-- Chapters and Tags.
pub record Keeps (held : ℕ) (list : List Header) (kept : Collected) : Type 0 where
  pub others : kept.others.items ≡ others_of list
  pub first : kept.cluster ≡ first_of CLUSTER list
  pub last : kept.last ≡ last_element list
  pub octets : kept.held ≡ held + described list

-- `P` holds for each count `held` of bytes in earlier inputs and each list of Elements that give the collection `kept`. The contracts of a collection
-- use it.
abbrev pub OfKept : Collected → (ℕ → List Header → Type 0) → Type 0
OfKept kept P = (held : ℕ) (list : List Header) → Keeps held list kept → P held list

-- If `refusal` is None, the collection `old` became `new`, which keeps the Element `h` after the Elements before it; a contract of `add`.
abbrev pub KeepsAlso : Header → Collected → Collected → Option Damage → Type 0
KeepsAlso h old new refusal = refusal ≡ None → OfKept old (λ held list. Keeps held (list ++ h ∷ []) new)

-- If `refusal` is None, the collection `old` became `new`: `h` was added to its Elements other than Clusters, unless it is a Cluster. It is a
-- contract of `add`.
abbrev pub AddsOther : Header → Collected → Collected → Option Damage → Type 0
AddsOther h old new refusal = refusal ≡ None → new.others.items ≡ old.others.items ++ unless_cluster h

-- `refusal`, which `add` returned, is the damage of the Element `h` if it passes a limit, by itself or with the Elements that `kept` has; otherwise
-- it is None.
abbrev pub RefusesAs : Header → Collected → Option Damage → Type 0
RefusesAs h kept refusal = OfKept kept (λ held list. refusal ≡ first_damage (limit_causes held list h))
